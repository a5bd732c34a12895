-- `keep_new` meets its contract, way by way.
use borrow.Author.Rules.{rules}
use Rattle.agreement.specs.declared.refusal.Refusal.TheVariants.{NoRunLeft}
use Rattle.agreement.proofs.Agreeing.{agree_shaped}
use Rattle.keeping.proofs.Outcomes.{answer_refused, answer_accepted, words_refused, words_accepted}
use Rattle.keeping.proofs.Appends.{keep_asks, keep_lasts, keep_counts, keep_dropped, keep_record, spent_used, spent_room, spent_table, store_some, store_product, store_sum, store_storable, store_full, store_accepted, store_room, store_used, store_table}
use mathlib.Core.Bool.{not}
use mathlib.Core.Path.{ap}
use Rattle.keeping.proofs.appending.keep_new.Goals as goal

-- the places of the way that stores

pub invariant_of-head : goal.invariant_of-head
invariant_of-head c = search (rules, keep_asks)

pub passed_ends-passed-requires : goal.passed_ends-passed-requires
passed_ends-passed-requires c = search (rules, keep_asks)

pub count_passed_of-spent-requires : goal.count_passed_of-spent-requires
count_passed_of-spent-requires c = search (rules, keep_lasts)

pub counted-requires : goal.counted-requires
counted-requires c = search (rules, keep_counts, keep_dropped)

pub returns-then-spent-count : goal.returns-then-spent-count
returns-then-spent-count c = record { value = search (rules, answer_accepted, spent_room, keep_record, spent_used); table_after = search (rules, words_accepted, spent_room, spent_table) }

pub has_room-requires : goal.has_room-requires
has_room-requires c = search (rules, agree_shaped)

pub returns-then-not-has_room : goal.returns-then-not-has_room
returns-then-not-has_room c = record { value = search (rules, answer_refused, store_full); table_after = words_refused _ _ _ NoRunLeft (search (rules, store_full)) }

pub overflow_mul-first : goal.overflow_mul-first
overflow_mul-first c = search (rules, store_product)

pub overflow_add-first : goal.overflow_add-first
overflow_add-first c = search (rules, store_sum)

pub overflow_sub-count : goal.overflow_sub-count
overflow_sub-count c = search (rules, store_some)

pub store-then-requires : goal.store-then-requires
store-then-requires c = search (rules, store_storable, store_room)

pub counted-requires-2 : goal.counted-requires-2
counted-requires-2 c = search (rules, keep_counts, keep_dropped)

pub returns : goal.returns
returns c =
    let rec = c.args.rec in
    let ws = c.args.table.now in
    let span = c.args.span in
    let n = c.args.count in
    let p = c.passed_ends-passed.result in
    let w = c.passed_ends-passed.ensures in
    let k = c.count_passed_of-spent.ensures in
    let t = c.has_room.result in
    let e = c.has_room.ensures in
    let some = c.if-spent-count.false in
    let m = (ap not c.if-not-has_room.false) in
    let yes-room = store_accepted rec ws span n c.requires p w _ k some t e m in
    let used = store_used rec ws span n c.requires p w _ k some t e m c.store-then.result c.store-then.ensures.value in record { value = answer_accepted _ _ _ yes-room _ (keep_record rec ws span n c.requires p w _ k _ used _ c.counted-2.ensures) _ c.accepted-2.ensures; table_after = words_accepted _ _ _ yes-room _ (store_table rec ws span n c.requires p w _ k some t e m _ c.store-then.ensures.table_after) }
