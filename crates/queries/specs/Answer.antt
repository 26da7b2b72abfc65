-- The kinds of answers in the model's terms.
use Rattle.std.specs.Prelude.{option_map}
use Rattle.std.specs.Arc.{arc_value}
use Rattle.model.specs.Query as model
use Rattle.queries.specs.declared.answer.AnswerKind.{AnswerKind}
use Rattle.queries.specs.declared.answer.AnswerKind.TheVariants.{Found, Opened, Differences, Changed, Documents, Counted, FoundLocal, Limit}

abbrev pub answer_of : AnswerKind → model.Answer
answer_of (Found document) = model.Found document
answer_of (Opened documents) = model.Opened documents.items
answer_of (Differences differences) = model.Differences differences
answer_of (Changed page) = model.Changed page
answer_of (Documents documents) = model.Documents documents.items
answer_of (Counted counts) = model.Counted counts
answer_of (FoundLocal local) = model.FoundLocal (option_map (λ l. (l.0, arc_value l.1)) local)
answer_of (Limit limit) = model.Limit limit
