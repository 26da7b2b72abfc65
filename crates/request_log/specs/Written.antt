-- What a line is written of.
use Rattle.request_log.specs.declared.line.Line.{Line}
use Rattle.request_log.specs.Line.{Written}

-- the request, and how it was answered
abbrev pub written : Line → Written
written line = record {
  time = line.time.now;
  worker = line.worker;
  method = line.method.now;
  target = line.target.now;
  status = line.status;
  place = line.place;
  bytes = line.bytes;
  microseconds = line.microseconds;
}
