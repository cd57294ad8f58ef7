use Rattle.std.proofs.Common.{◌≡◌, ◌++◌, ◌∷◌, [], None, Some, slice_get, refl, sym, ◌∙◌}
use Rattle.c_types.proofs.Shaping.{slot_last}
use Rattle.c_types.proofs.table.TypeTable.push_record.Goals as goal

pub put_root-requires-clause-fact : goal.put_root-requires-clause-fact
put_root-requires-clause-fact c = c.of_record.ensures c.push_head.new.self.layouts

pub drop_head-requires-clause-open : goal.drop_head-requires-clause-open
drop_head-requires-clause-open c =
    rw (c.in-Err.ensures.err, c.in_ok-push_head.ensures.ok) (slot_last c.args.self.now.layouts c.count_records-number.result (c.count_records-number.ensures.count ∙ sym c.count_records-number.ensures.layouts))

pub returns-in-Ok-clause-unfinished : goal.returns-in-Ok-clause-unfinished
returns-in-Ok-clause-unfinished c =
    let slot : slice_get (c.args.self.now.layouts ++ None ∷ []) c.count_records-number.result ≡ Some None = slot_last c.args.self.now.layouts c.count_records-number.result (c.count_records-number.ensures.count ∙ sym c.count_records-number.ensures.layouts) in
    rw (c.in-Ok.ensures.is, c.put_root.ensures.longer.layouts, c.in_ok-push_head.ensures.ok, slot) refl
