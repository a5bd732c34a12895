-- `append_joined` meets its contract, test by test.
use borrow.Author.Rules.{rules}
use Rattle.agreement.specs.declared.refusal.Refusal.TheVariants.{TickLimit, CountLimit, PastEnd}
use Rattle.keeping.proofs.Outcomes.{answer_refused, words_refused, answer_as, words_as}
use Rattle.keeping.proofs.Judged.{ends_asks, ends_over, counts_fit, begins_asks, counts_over, fitting, begins_past, begins_before}
use mathlib.Core.Bool.{not}
use mathlib.Core.Path.{ap}
use Rattle.keeping.proofs.appending.append_joined.Goals as goal

-- the places on the way

pub ends_within-requires : goal.ends_within-requires
ends_within-requires c = ends_asks c.args.rec _ _ _ c.requires

pub returns-then-not-ends_within : goal.returns-then-not-ends_within
returns-then-not-ends_within c = record { value = search (rules, answer_refused, ends_over); table_after = words_refused _ _ _ TickLimit (search (rules, ends_over)) }

pub overflow_add-rec : goal.overflow_add-rec
overflow_add-rec c =
    counts_fit c.args.rec _ _ _ c.requires _ c.ends_within.ensures (ap not c.if-not-ends_within.false)

pub returns-then-not-counts_held : goal.returns-then-not-counts_held
returns-then-not-counts_held c = record { value = search (rules, answer_refused, counts_over); table_after = words_refused _ _ _ CountLimit (search (rules, counts_over)) }

pub all_begin-requires : goal.all_begin-requires
all_begin-requires c =
    begins_asks c.args.rec _ _ _ c.requires _ c.ends_within.ensures (ap not c.if-not-ends_within.false)

pub returns-then-not-all_begin : goal.returns-then-not-all_begin
returns-then-not-all_begin c = record { value = search (rules, answer_refused, begins_past); table_after = words_refused _ _ _ PastEnd (search (rules, begins_past)) }

pub keep_new-requires : goal.keep_new-requires
keep_new-requires c =
    fitting c.args.rec _ _ _ c.requires _ c.ends_within.ensures (ap not c.if-not-ends_within.false) _ c.counts_held.ensures (ap not c.if-not-counts_held.false)

pub returns : goal.returns
returns c =
    let same =
    begins_before c.args.rec c.args.table.now c.args.span c.args.count c.requires _ c.ends_within.ensures
    (ap not c.if-not-ends_within.false) _ c.counts_held.ensures (ap not c.if-not-counts_held.false) _ c.all_begin.ensures (ap not c.if-not-all_begin.false)
    in
    record { value = answer_as _ _ same _ _ _ c.keep_new.ensures.value; table_after = words_as _ _ same _ _ _ c.keep_new.ensures.table_after }
