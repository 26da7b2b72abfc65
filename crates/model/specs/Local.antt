-- Local documents: each has the number of its last revision and a body, and is never replicated.
use Rattle.std.specs.Prelude.{ℕ, ◌+◌, ◌==◌, nat_lt, Option, Some, None, Result, Ok, Err, if◌then◌else◌}
use Rattle.std.specs.Option.{option_eq}
use Rattle.model.specs.Map.{Map, put, without}
use Rattle.model.specs.Body.{Body}
use Rattle.model.specs.Command.{Id, names, Refusal, Conflict, Missing, GenerationLimit, last_counter}

-- CouchDB: "Local (non-replicating) Documents"
pub record Local : Type 0 where
  pub counter : ℕ
  pub body : Body

-- the number after a write, or 0 after a deletion
abbrev pub next_counter : ℕ → Option Body → Result ℕ Refusal
next_counter k None = Ok 0
next_counter k (Some b) = if nat_lt k last_counter then Ok (k + 1) else Err GenerationLimit

-- a write names the present revision; where there is no document a write names none
-- CouchDB: PUT /{db}/_local/{docid}, DELETE /{db}/_local/{docid}
abbrev pub local_written : Option Local → Option ℕ → Option Body → Result ℕ Refusal
local_written None named None = Err Missing
local_written None None (Some b) = Ok 1
local_written None (Some k) (Some b) = Err Conflict
local_written (Some l) named body = if option_eq ◌==◌ named (Some l.counter) then next_counter l.counter body else Err Conflict

-- what the local documents are then
-- CouchDB: PUT /{db}/_local/{docid}, DELETE /{db}/_local/{docid}
abbrev pub store_local : Map names Local → Id → Option Body → Result ℕ Refusal → Map names Local
store_local m id body (Err e) = m
store_local m id None (Ok k) = without m id
store_local m id (Some b) (Ok k) = put m id (record { counter = k; body = b })
