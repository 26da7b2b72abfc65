-- What is asked has a text: each reply to a command in a form in which it is asked, and each answer to a query.
use Rattle.std.proofs.Common.{◌≡◌, ℕ, ◌-◌, [], ◌∷◌, Option, Some, None, refl, sym, subst}
use Rattle.std.specs.Prelude.{IsSome, option_map}
use Rattle.model.specs.Command.{Command, Edits, Merges, PutLocal, Purge, SetLimit, SetPurgedLimit, Compact, Reply, Entry}
use Rattle.model.specs.Query.{Query, Get, OpenRevs, RevsDiff, Changes, AllDocuments, Info, GetLocal, RevsLimit, PurgedInfosLimit, Answer}
use Rattle.model.specs.Database.{Database, reply_to}
use Rattle.model.specs.History.{IsLegal, base_of}
use Rattle.model.specs.Answers.{answer_to}
use Rattle.http_request.specs.Forms.{IsFormOf}
use Rattle.http_request.specs.declared.asked.Form.{Form}
use Rattle.http_request.specs.declared.asked.Form.TheVariants as form
use Rattle.http_response.specs.Told.{Told, reply_told, answer_told}
use Rattle.http_response.specs.Texts.{told_text, reply_text, answer_text}
use Rattle.http_response.specs.declared.connection.Connection.{Connection}
use Rattle.session_api.specs.Known.{Known, HasEntryAt}
use Rattle.session_api.proofs.Histories.{legal_reply}

-- a reply to a command in a form in which it is asked
pub reply-told : (d : Database) (form : Form) (command : Command) → IsFormOf form command → IsSome (reply_told form command (reply_to d command))
unfolding reply_to
reply-told d form.Put (Edits (edit ∷ [])) fits = refl
reply-told d form.Delete (Edits (edit ∷ [])) fits = refl
reply-told d form.Put (PutLocal id named body) fits = refl
reply-told d form.Delete (PutLocal id named body) fits = refl
reply-told d form.Whole (Edits edits) fits = refl
reply-told d form.Whole (Merges merges) fits = refl
reply-told d form.Whole (Purge named) fits = refl
reply-told d form.Whole (SetLimit limit) fits = refl
reply-told d form.Whole (SetPurgedLimit limit) fits = refl
reply-told d form.Whole Compact fits = refl
reply-told d form.Put (Edits []) fits = absurd fits
reply-told d form.Put (Edits (edit ∷ (more ∷ edits))) fits = absurd fits
reply-told d form.Put (Merges merges) fits = absurd fits
reply-told d form.Put (Purge named) fits = absurd fits
reply-told d form.Put (SetLimit limit) fits = absurd fits
reply-told d form.Put (SetPurgedLimit limit) fits = absurd fits
reply-told d form.Put Compact fits = absurd fits
reply-told d form.Delete (Edits []) fits = absurd fits
reply-told d form.Delete (Edits (edit ∷ (more ∷ edits))) fits = absurd fits
reply-told d form.Delete (Merges merges) fits = absurd fits
reply-told d form.Delete (Purge named) fits = absurd fits
reply-told d form.Delete (SetLimit limit) fits = absurd fits
reply-told d form.Delete (SetPurgedLimit limit) fits = absurd fits
reply-told d form.Delete Compact fits = absurd fits
reply-told d form.Whole (PutLocal id named body) fits = absurd fits

-- the answer to a query
pub answer-told : (d : Database) (query : Query) → IsSome (answer_told query (answer_to d query))
unfolding answer_to
answer-told d (Get id rev options) = refl
answer-told d (OpenRevs id asked options) = refl
answer-told d (RevsDiff named) = refl
answer-told d (Changes since limit style ids) = refl
answer-told d AllDocuments = refl
answer-told d Info = refl
answer-told d (GetLocal id) = refl
answer-told d RevsLimit = refl
answer-told d PurgedInfosLimit = refl

-- the reply of an entry of a legal history, whose command is asked for in this form
pub entry-told : (k : Known) (place : ℕ) (entry : Entry) (form : Form) → IsLegal (base_of k.base) k.seen → HasEntryAt k place entry → IsFormOf form entry.command → IsSome (reply_told form entry.command entry.reply)
entry-told k place entry form legal told fits =
    let replied = legal_reply (base_of k.base) k.seen (place - 1) entry legal told.1 in
    subst (λ (reply : Reply). IsSome (reply_told form entry.command reply)) (sym replied.1) (reply-told replied.0 form entry.command fits)

-- what wants a text has one
due : (place : ℕ) (connection : Connection) (told : Option Told) → IsSome told → option_map (told_text place connection) told ≡ None → ⊥
due place connection (Some told) some none = absurd (cc)
due place connection None some none = absurd (cc)

pub reply_due : (place : ℕ) (connection : Connection) (form : Form) (command : Command) (reply : Reply) → IsSome (reply_told form command reply)
    → None ≡ reply_text place connection form command reply → ⊥
unfolding reply_text
reply_due place connection form command reply some none = due place connection (reply_told form command reply) some (sym none)

pub answer_due : (place : ℕ) (connection : Connection) (query : Query) (answer : Answer) → IsSome (answer_told query answer)
    → None ≡ answer_text place connection query answer → ⊥
unfolding answer_text
answer_due place connection query answer some none = due place connection (answer_told query answer) some (sym none)
