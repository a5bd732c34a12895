-- `open` meets its contract, way by way.
use borrow.Author.Rules.{rules}
use Rattle.agreement.specs.declared.refusal.Refusal.TheVariants.{OverLimit}
use Rattle.keeping.proofs.Outcomes.{answer_refused, answer_accepted, words_refused, words_accepted}
use Rattle.timeline.proofs.Opens.{open_head, open_tick, open_accepted, open_fresh}
use Rattle.timeline.proofs.opening.open.Goals as goal

pub returns-in_default : goal.returns-in_default
returns-in_default c = record { value = search (rules, answer_refused, open_head); table_after = words_refused _ _ _ OverLimit (search (rules, open_head)) }

pub returns-in_default-new : goal.returns-in_default-new
returns-in_default-new c = record { value = search (rules, answer_refused, open_tick); table_after = words_refused _ _ _ OverLimit (search (rules, open_tick)) }

pub returns : goal.returns
returns c =
    let f = c.args.fields in
    let t = c.args.first in
    let opens = open_accepted f t _ c.new.ensures _ c.in-Some.is _ c.new-2.ensures _ c.in-Some-new.is in
    let new = open_fresh f t _ c.new.ensures _ c.in-Some.is _ c.new-2.ensures _ c.in-Some-new.is _ c.fresh.ensures in
    record { value = answer_accepted _ _ _ opens _ new _ c.accepted.ensures; table_after = search (rules, words_accepted, opens) }
