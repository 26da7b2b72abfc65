use Rattle.model.proofs.BulkLaws.{after_edits-append, edit_replies-append, after_merges-append, merge_replies-append, after_purges-append}
use Rattle.model.proofs.databases.bulks_act_in_order.Goals as goal

pub returns-clause-edits : goal.returns-clause-edits
returns-clause-edits c = after_edits-append

pub returns-clause-edit_replies : goal.returns-clause-edit_replies
returns-clause-edit_replies c = edit_replies-append

pub returns-clause-merges : goal.returns-clause-merges
returns-clause-merges c = after_merges-append

pub returns-clause-merge_replies : goal.returns-clause-merge_replies
returns-clause-merge_replies c = merge_replies-append

pub returns-clause-purges : goal.returns-clause-purges
returns-clause-purges c = after_purges-append
