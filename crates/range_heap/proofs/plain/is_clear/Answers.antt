use Rattle.std.proofs.Common.{◌+◌, get_or, subst, sym}
use Rattle.std.proofs.lemmas.List.{drop_more, drop_all, take_rest}
use Rattle.range_heap.specs.declared.call.HeapCall.{HeapCall}
use Rattle.range_heap.specs.declared.call.HeapEvent.TheVariants.{Grant}
use Rattle.range_heap.specs.Plain.{Passes, AllPass}
use Rattle.range_heap.proofs.Slow.{clear_where_all_pass, all_pass_where_clear, pass_drop}
use Rattle.range_heap.proofs.plain.is_clear.Goals as goal

abbrev none : HeapCall
none = record { who = 0; what = Grant 0 0 }

pub returns-then-not-passes-clause-no : goal.returns-then-not-passes-clause-no
returns-then-not-passes-clause-no c same clear =
    let h = c.args.history.now in
    let p = pass_drop c.args.place c.args.len c.loop-i.i h (all_pass_where_clear c.args.place c.args.len h clear) in
    let q = subst (λ l. AllPass c.args.place c.args.len l) (drop_more h c.loop-i.i none c.loop-i-test.true) p in
    c.passes.ensures.no c.if-not-passes.true (subst (λ l. Passes c.args.place c.args.len (get_or h c.loop-i.i none).what l) (sym (take_rest h (c.loop-i.i + 1))) q.0)

pub returns-clause-yes : goal.returns-clause-yes
returns-clause-yes c same =
    let h = c.args.history.now in
    clear_where_all_pass c.args.place c.args.len h (c.loop-i.invariant (subst (λ l. AllPass c.args.place c.args.len l) (sym (drop_all c.loop-i.i h c.loop-i-test.false)) tt))
