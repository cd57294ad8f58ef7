use Rattle.std.proofs.Common.{◌≡◌, ℕ, ◌+◌, ◌<◌, ◌≤◌, true, false, List, [], ◌∷◌, ◌++◌, length, take, drop, map, set, get_or, replicate, Result, Ok, Err, refl, sym, ap, ◌∙◌, subst, arith}
use Rattle.std.specs.Prelude.{slice_get}
use Rattle.std.proofs.lemmas.Grind.{common_steps}
use Rattle.std.proofs.lemmas.List.{map-append, length-replicate, set-set, get_or-set_same, get_or-set_other}
use Rattle.block_memory.proofs.Reaching.{Reached, reach_ok, reach_err, site_at}
use Rattle.c_core.specs.Blocks.{load, copy, cells_at}
use Rattle.c_core.specs.Values.{value_in}
use Rattle.c_core.specs.declared.values.Cell.{Cell}
use Rattle.c_core.specs.declared.values.Cell.TheVariants.{Undefined, Byte}
use Rattle.c_core.specs.declared.values.BlockKind.{BlockKind}
use Rattle.c_core.specs.Values.{cells_of, scalar_size, kind_of}
use Rattle.c_core.specs.Blocks.{Block, Blocks, replaced, reached, dead, killed, initialised, placed}
use Rattle.block_memory.specs.Given.{IsGivenValue, IsGivenCell, AreGiven}
use Rattle.block_memory.specs.Shape.{Stored, sizes_of, AreKept, place_of}
use Rattle.block_memory.specs.CellForm.{block_of, blocks_in, starts_in}
use Rattle.block_memory.specs.declared.cell_memory.CellBlock.{CellBlock}
use Rattle.block_memory.proofs.Keeping.{given_cells, given_replicate, kept_placed, kept_at, value_given}
use Rattle.block_memory.proofs.Steps.{Wrote, Kept, stored, filled, copied, copy_over, copy_unread, length-value, load_is, cells_given, live_at, killed_is, killed_kept, kept_as, initialised_is, initialised_kept}
use Rattle.block_memory.proofs.Cells.{starts_same, is_there, set_is, within, kept_view, reach_within, room_there, same_block, cells_wrote, reach, copy_wrote, placed_kept}
use Rattle.block_memory.proofs.cell_memory.CellMemoryMemory.copy.Goals as goal

pub returns-in_err-source-clause-fault : goal.returns-in_err-source-clause-fault
returns-in_err-source-clause-fault c =
    let bs = c.args.self.now.blocks in
    let t = reach_ok bs c.args.to c.args.n 1 true c.in_ok-target.target (sym c.in_ok-target.ensures) in
    let h = copy_unread bs c.in_ok-target.target c.args.to c.args.from c.args.n c.args.may_overlap t _ (reach_err (reached bs c.args.from c.args.n 1 false) _ (sym c.in_err-source.ensures)) in
    grind (arith, common_steps, h)

pub returns-then-clashes-clause-fault : goal.returns-then-clashes-clause-fault
returns-then-clashes-clause-fault c =
    let bs = c.args.self.now.blocks in
    let t = reach_ok bs c.args.to c.args.n 1 true c.in_ok-target.target (sym c.in_ok-target.ensures) in
    let f = reach_ok bs c.args.from c.args.n 1 false c.in_ok-source.source (sym c.in_ok-source.ensures) in
    copy_over bs c.in_ok-target.target c.args.to c.args.from c.args.n c.args.may_overlap c.in_ok-source.source t f (sym c.clashes.ensures ∙ c.if-clashes.true)

pub shift-requires-clause-room : goal.shift-requires-clause-room
shift-requires-clause-room c =
    let items = c.self.inside.blocks.items in
    let bs = c.args.self.now.blocks in
    let view : blocks_in items ≡ bs = ap (λ (s : Stored). s.blocks) c.self.view_is in
    let to = c.args.to in
    let from = c.args.from in
    let n = c.args.n in
    let place = c.in_ok-target.target in
    let source = c.in_ok-source.source in
    let ok = c.in_ok-target.ensures in
    let ok2 = c.in_ok-source.ensures in
    let x = c.index_mut-block.result.now in
    let e : x ≡ get_or items place.number x = c.index_mut-block.ensures.value in
    let f : x ≡ get_or items source.number x = e ∙ ap (λ k. get_or items k x) c.if-target-source.true in
    let room = room_there items bs view c.self.invariant to n 1 true place ok x e in
    omega (arith, room)

pub shift-requires-clause-part : goal.shift-requires-clause-part
shift-requires-clause-part c =
    let items = c.self.inside.blocks.items in
    let bs = c.args.self.now.blocks in
    let view : blocks_in items ≡ bs = ap (λ (s : Stored). s.blocks) c.self.view_is in
    let to = c.args.to in
    let from = c.args.from in
    let n = c.args.n in
    let place = c.in_ok-target.target in
    let source = c.in_ok-source.source in
    let ok = c.in_ok-target.ensures in
    let ok2 = c.in_ok-source.ensures in
    let x = c.index_mut-block.result.now in
    let e : x ≡ get_or items place.number x = c.index_mut-block.ensures.value in
    let f : x ≡ get_or items source.number x = e ∙ ap (λ k. get_or items k x) c.if-target-source.true in
    let room = room_there items bs view c.self.invariant from n 1 false source ok2 x f in
    omega (arith, room)

pub invariant_of-self : goal.invariant_of-self
invariant_of-self c =
    let items = c.self.inside.blocks.items in
    let bs = c.args.self.now.blocks in
    let view : blocks_in items ≡ bs = ap (λ (s : Stored). s.blocks) c.self.view_is in
    let to = c.args.to in
    let from = c.args.from in
    let n = c.args.n in
    let place = c.in_ok-target.target in
    let source = c.in_ok-source.source in
    let ok = c.in_ok-target.ensures in
    let ok2 = c.in_ok-source.ensures in
    let x = c.index_mut-block.result.now in
    let e : x ≡ get_or items place.number x = c.index_mut-block.ensures.value in
    let f : x ≡ get_or items source.number x = e ∙ ap (λ k. get_or items k x) c.if-target-source.true in
    let y : CellBlock = record x { cells = c.shift.new.cells } in
    let cells : List Cell = take n (drop source.offset x.cells.items) in
    let s : block_of y ≡ record (block_of x) { cells = replaced x.cells.items place.offset cells } = ap (λ l. let b : Block = record (block_of x) { cells = l } in b) c.shift.ensures in
    let w = copy_wrote items bs view c.self.invariant to from n place source ok ok2 x e x f y cells refl s in
    w.kept.kept

pub returns-then-target-source-clause-ok : goal.returns-then-target-source-clause-ok
returns-then-target-source-clause-ok c =
    let items = c.self.inside.blocks.items in
    let bs = c.args.self.now.blocks in
    let view : blocks_in items ≡ bs = ap (λ (s : Stored). s.blocks) c.self.view_is in
    let to = c.args.to in
    let from = c.args.from in
    let n = c.args.n in
    let place = c.in_ok-target.target in
    let source = c.in_ok-source.source in
    let ok = c.in_ok-target.ensures in
    let ok2 = c.in_ok-source.ensures in
    let x = c.index_mut-block.result.now in
    let e : x ≡ get_or items place.number x = c.index_mut-block.ensures.value in
    let f : x ≡ get_or items source.number x = e ∙ ap (λ k. get_or items k x) c.if-target-source.true in
    let y : CellBlock = record x { cells = c.shift.new.cells } in
    let cells : List Cell = take n (drop source.offset x.cells.items) in
    let s : block_of y ≡ record (block_of x) { cells = replaced x.cells.items place.offset cells } = ap (λ l. let b : Block = record (block_of x) { cells = l } in b) c.shift.ensures in
    let w = copy_wrote items bs view c.self.invariant to from n place source ok ok2 x e x f y cells refl s in
    copied bs (blocks_in (set items place.number y)) to from n c.args.may_overlap place source (reach items bs view c.self.invariant from n 1 false source ok2) (sym c.clashes.ensures ∙ c.if-clashes.false) w

pub returns-then-target-source-clause-sizes : goal.returns-then-target-source-clause-sizes
returns-then-target-source-clause-sizes c =
    let items = c.self.inside.blocks.items in
    let bs = c.args.self.now.blocks in
    let view : blocks_in items ≡ bs = ap (λ (s : Stored). s.blocks) c.self.view_is in
    let to = c.args.to in
    let from = c.args.from in
    let n = c.args.n in
    let place = c.in_ok-target.target in
    let source = c.in_ok-source.source in
    let ok = c.in_ok-target.ensures in
    let ok2 = c.in_ok-source.ensures in
    let x = c.index_mut-block.result.now in
    let e : x ≡ get_or items place.number x = c.index_mut-block.ensures.value in
    let f : x ≡ get_or items source.number x = e ∙ ap (λ k. get_or items k x) c.if-target-source.true in
    let y : CellBlock = record x { cells = c.shift.new.cells } in
    let cells : List Cell = take n (drop source.offset x.cells.items) in
    let s : block_of y ≡ record (block_of x) { cells = replaced x.cells.items place.offset cells } = ap (λ l. let b : Block = record (block_of x) { cells = l } in b) c.shift.ensures in
    let w = copy_wrote items bs view c.self.invariant to from n place source ok ok2 x e x f y cells refl s in
    w.kept.sizes

pub returns-then-target-source-clause-starts : goal.returns-then-target-source-clause-starts
returns-then-target-source-clause-starts c =
    let items = c.self.inside.blocks.items in
    let bs = c.args.self.now.blocks in
    let view : blocks_in items ≡ bs = ap (λ (s : Stored). s.blocks) c.self.view_is in
    let to = c.args.to in
    let from = c.args.from in
    let n = c.args.n in
    let place = c.in_ok-target.target in
    let source = c.in_ok-source.source in
    let ok = c.in_ok-target.ensures in
    let ok2 = c.in_ok-source.ensures in
    let x = c.index_mut-block.result.now in
    let e : x ≡ get_or items place.number x = c.index_mut-block.ensures.value in
    let f : x ≡ get_or items source.number x = e ∙ ap (λ k. get_or items k x) c.if-target-source.true in
    let y : CellBlock = record x { cells = c.shift.new.cells } in
    let cells : List Cell = take n (drop source.offset x.cells.items) in
    let s : block_of y ≡ record (block_of x) { cells = replaced x.cells.items place.offset cells } = ap (λ l. let b : Block = record (block_of x) { cells = l } in b) c.shift.ensures in
    let w = copy_wrote items bs view c.self.invariant to from n place source ok ok2 x e x f y cells refl s in
    starts_same items place.number x y (reach_within items bs view c.self.invariant to n 1 true place ok) e refl ∙ ap (λ (s : Stored). s.starts) c.self.view_is

pub put_part-requires-clause-room : goal.put_part-requires-clause-room
put_part-requires-clause-room c =
    let items = c.self.inside.blocks.items in
    let bs = c.args.self.now.blocks in
    let view : blocks_in items ≡ bs = ap (λ (s : Stored). s.blocks) c.self.view_is in
    let to = c.args.to in
    let from = c.args.from in
    let n = c.args.n in
    let place = c.in_ok-target.target in
    let source = c.in_ok-source.source in
    let ok = c.in_ok-target.ensures in
    let ok2 = c.in_ok-source.ensures in
    let x = c.index_mut-block-2.result.now in
    let e : x ≡ get_or items place.number x = c.index_mut-block-2.ensures.value in
    let h : place.number < length items = reach_within items bs view c.self.invariant to n 1 true place ok in
    let blank : CellBlock = record x { cells = c.replace-cells.new.dest } in
    let z = c.index-other.result.now in
    let f : z ≡ get_or items source.number z = c.index-other.ensures ∙ get_or-set_other items place.number source.number blank z (λ q. c.if-target-source.false (sym q)) in
    let taken : c.replace-cells.result.items ≡ x.cells.items = rw c.replace-cells.ensures.value refl in
    let room = room_there items bs view c.self.invariant to n 1 true place ok x e in
    let l : length c.replace-cells.result.items ≡ length x.cells.items = ap (λ k. length k) taken in
    omega (arith, room, l)

pub put_part-requires-clause-part : goal.put_part-requires-clause-part
put_part-requires-clause-part c =
    let items = c.self.inside.blocks.items in
    let bs = c.args.self.now.blocks in
    let view : blocks_in items ≡ bs = ap (λ (s : Stored). s.blocks) c.self.view_is in
    let to = c.args.to in
    let from = c.args.from in
    let n = c.args.n in
    let place = c.in_ok-target.target in
    let source = c.in_ok-source.source in
    let ok = c.in_ok-target.ensures in
    let ok2 = c.in_ok-source.ensures in
    let x = c.index_mut-block-2.result.now in
    let e : x ≡ get_or items place.number x = c.index_mut-block-2.ensures.value in
    let h : place.number < length items = reach_within items bs view c.self.invariant to n 1 true place ok in
    let blank : CellBlock = record x { cells = c.replace-cells.new.dest } in
    let z = c.index-other.result.now in
    let f : z ≡ get_or items source.number z = c.index-other.ensures ∙ get_or-set_other items place.number source.number blank z (λ q. c.if-target-source.false (sym q)) in
    let taken : c.replace-cells.result.items ≡ x.cells.items = rw c.replace-cells.ensures.value refl in
    let room = room_there items bs view c.self.invariant from n 1 false source ok2 z f in
    let l : length c.as_slice.result.now ≡ length z.cells.items = ap (λ k. length k) c.as_slice.ensures.value in
    omega (arith, room, l)

pub invariant_of-self-2 : goal.invariant_of-self-2
invariant_of-self-2 c =
    let items = c.self.inside.blocks.items in
    let bs = c.args.self.now.blocks in
    let view : blocks_in items ≡ bs = ap (λ (s : Stored). s.blocks) c.self.view_is in
    let to = c.args.to in
    let from = c.args.from in
    let n = c.args.n in
    let place = c.in_ok-target.target in
    let source = c.in_ok-source.source in
    let ok = c.in_ok-target.ensures in
    let ok2 = c.in_ok-source.ensures in
    let x = c.index_mut-block-2.result.now in
    let e : x ≡ get_or items place.number x = c.index_mut-block-2.ensures.value in
    let h : place.number < length items = reach_within items bs view c.self.invariant to n 1 true place ok in
    let blank : CellBlock = record x { cells = c.replace-cells.new.dest } in
    let z = c.index-other.result.now in
    let f : z ≡ get_or items source.number z = c.index-other.ensures ∙ get_or-set_other items place.number source.number blank z (λ q. c.if-target-source.false (sym q)) in
    let taken : c.replace-cells.result.items ≡ x.cells.items = rw c.replace-cells.ensures.value refl in
    let b2 = c.index_mut-block-3.result.now in
    let same : b2 ≡ blank = c.index_mut-block-3.ensures.value ∙ get_or-set_same items place.number blank b2 h in
    let y : CellBlock = record b2 { cells = c.put_part.new.cells } in
    let cells : List Cell = take n (drop source.offset z.cells.items) in
    let put : c.put_part.new.cells.items ≡ replaced x.cells.items place.offset cells = c.put_part.ensures ∙ ap (λ l. replaced l place.offset (take n (drop source.offset c.as_slice.result.now))) taken ∙ ap (λ l. replaced x.cells.items place.offset (take n (drop source.offset l))) c.as_slice.ensures.value in
    let s : block_of y ≡ record (block_of x) { cells = replaced x.cells.items place.offset cells } = ap (λ (b : CellBlock). block_of (record b { cells = c.put_part.new.cells })) same ∙ ap (λ l. let b : Block = record (block_of x) { cells = l } in b) put in
    let w = copy_wrote items bs view c.self.invariant to from n place source ok ok2 x e z f y cells refl s in
    let twice : set (set items place.number blank) place.number y ≡ set items place.number y = set-set items place.number blank y in
    subst (λ l. AreKept (sizes_of (blocks_in l)) (blocks_in l)) (sym twice) w.kept.kept

pub returns-clause-ok : goal.returns-clause-ok
returns-clause-ok c =
    let items = c.self.inside.blocks.items in
    let bs = c.args.self.now.blocks in
    let view : blocks_in items ≡ bs = ap (λ (s : Stored). s.blocks) c.self.view_is in
    let to = c.args.to in
    let from = c.args.from in
    let n = c.args.n in
    let place = c.in_ok-target.target in
    let source = c.in_ok-source.source in
    let ok = c.in_ok-target.ensures in
    let ok2 = c.in_ok-source.ensures in
    let x = c.index_mut-block-2.result.now in
    let e : x ≡ get_or items place.number x = c.index_mut-block-2.ensures.value in
    let h : place.number < length items = reach_within items bs view c.self.invariant to n 1 true place ok in
    let blank : CellBlock = record x { cells = c.replace-cells.new.dest } in
    let z = c.index-other.result.now in
    let f : z ≡ get_or items source.number z = c.index-other.ensures ∙ get_or-set_other items place.number source.number blank z (λ q. c.if-target-source.false (sym q)) in
    let taken : c.replace-cells.result.items ≡ x.cells.items = rw c.replace-cells.ensures.value refl in
    let b2 = c.index_mut-block-3.result.now in
    let same : b2 ≡ blank = c.index_mut-block-3.ensures.value ∙ get_or-set_same items place.number blank b2 h in
    let y : CellBlock = record b2 { cells = c.put_part.new.cells } in
    let cells : List Cell = take n (drop source.offset z.cells.items) in
    let put : c.put_part.new.cells.items ≡ replaced x.cells.items place.offset cells = c.put_part.ensures ∙ ap (λ l. replaced l place.offset (take n (drop source.offset c.as_slice.result.now))) taken ∙ ap (λ l. replaced x.cells.items place.offset (take n (drop source.offset l))) c.as_slice.ensures.value in
    let s : block_of y ≡ record (block_of x) { cells = replaced x.cells.items place.offset cells } = ap (λ (b : CellBlock). block_of (record b { cells = c.put_part.new.cells })) same ∙ ap (λ l. let b : Block = record (block_of x) { cells = l } in b) put in
    let w = copy_wrote items bs view c.self.invariant to from n place source ok ok2 x e z f y cells refl s in
    let twice : set (set items place.number blank) place.number y ≡ set items place.number y = set-set items place.number blank y in
    copied bs (blocks_in (set items place.number y)) to from n c.args.may_overlap place source (reach items bs view c.self.invariant from n 1 false source ok2) (sym c.clashes.ensures ∙ c.if-clashes.false) w ∙ ap (λ l. Ok (blocks_in l)) (sym twice)

pub returns-clause-sizes : goal.returns-clause-sizes
returns-clause-sizes c =
    let items = c.self.inside.blocks.items in
    let bs = c.args.self.now.blocks in
    let view : blocks_in items ≡ bs = ap (λ (s : Stored). s.blocks) c.self.view_is in
    let to = c.args.to in
    let from = c.args.from in
    let n = c.args.n in
    let place = c.in_ok-target.target in
    let source = c.in_ok-source.source in
    let ok = c.in_ok-target.ensures in
    let ok2 = c.in_ok-source.ensures in
    let x = c.index_mut-block-2.result.now in
    let e : x ≡ get_or items place.number x = c.index_mut-block-2.ensures.value in
    let h : place.number < length items = reach_within items bs view c.self.invariant to n 1 true place ok in
    let blank : CellBlock = record x { cells = c.replace-cells.new.dest } in
    let z = c.index-other.result.now in
    let f : z ≡ get_or items source.number z = c.index-other.ensures ∙ get_or-set_other items place.number source.number blank z (λ q. c.if-target-source.false (sym q)) in
    let taken : c.replace-cells.result.items ≡ x.cells.items = rw c.replace-cells.ensures.value refl in
    let b2 = c.index_mut-block-3.result.now in
    let same : b2 ≡ blank = c.index_mut-block-3.ensures.value ∙ get_or-set_same items place.number blank b2 h in
    let y : CellBlock = record b2 { cells = c.put_part.new.cells } in
    let cells : List Cell = take n (drop source.offset z.cells.items) in
    let put : c.put_part.new.cells.items ≡ replaced x.cells.items place.offset cells = c.put_part.ensures ∙ ap (λ l. replaced l place.offset (take n (drop source.offset c.as_slice.result.now))) taken ∙ ap (λ l. replaced x.cells.items place.offset (take n (drop source.offset l))) c.as_slice.ensures.value in
    let s : block_of y ≡ record (block_of x) { cells = replaced x.cells.items place.offset cells } = ap (λ (b : CellBlock). block_of (record b { cells = c.put_part.new.cells })) same ∙ ap (λ l. let b : Block = record (block_of x) { cells = l } in b) put in
    let w = copy_wrote items bs view c.self.invariant to from n place source ok ok2 x e z f y cells refl s in
    let twice : set (set items place.number blank) place.number y ≡ set items place.number y = set-set items place.number blank y in
    ap (λ l. sizes_of (blocks_in l)) twice ∙ w.kept.sizes

pub returns-clause-starts : goal.returns-clause-starts
returns-clause-starts c =
    let items = c.self.inside.blocks.items in
    let bs = c.args.self.now.blocks in
    let view : blocks_in items ≡ bs = ap (λ (s : Stored). s.blocks) c.self.view_is in
    let to = c.args.to in
    let from = c.args.from in
    let n = c.args.n in
    let place = c.in_ok-target.target in
    let source = c.in_ok-source.source in
    let ok = c.in_ok-target.ensures in
    let ok2 = c.in_ok-source.ensures in
    let x = c.index_mut-block-2.result.now in
    let e : x ≡ get_or items place.number x = c.index_mut-block-2.ensures.value in
    let h : place.number < length items = reach_within items bs view c.self.invariant to n 1 true place ok in
    let blank : CellBlock = record x { cells = c.replace-cells.new.dest } in
    let z = c.index-other.result.now in
    let f : z ≡ get_or items source.number z = c.index-other.ensures ∙ get_or-set_other items place.number source.number blank z (λ q. c.if-target-source.false (sym q)) in
    let taken : c.replace-cells.result.items ≡ x.cells.items = rw c.replace-cells.ensures.value refl in
    let b2 = c.index_mut-block-3.result.now in
    let same : b2 ≡ blank = c.index_mut-block-3.ensures.value ∙ get_or-set_same items place.number blank b2 h in
    let y : CellBlock = record b2 { cells = c.put_part.new.cells } in
    let cells : List Cell = take n (drop source.offset z.cells.items) in
    let put : c.put_part.new.cells.items ≡ replaced x.cells.items place.offset cells = c.put_part.ensures ∙ ap (λ l. replaced l place.offset (take n (drop source.offset c.as_slice.result.now))) taken ∙ ap (λ l. replaced x.cells.items place.offset (take n (drop source.offset l))) c.as_slice.ensures.value in
    let s : block_of y ≡ record (block_of x) { cells = replaced x.cells.items place.offset cells } = ap (λ (b : CellBlock). block_of (record b { cells = c.put_part.new.cells })) same ∙ ap (λ l. let b : Block = record (block_of x) { cells = l } in b) put in
    let w = copy_wrote items bs view c.self.invariant to from n place source ok ok2 x e z f y cells refl s in
    let twice : set (set items place.number blank) place.number y ≡ set items place.number y = set-set items place.number blank y in
    ap (λ l. starts_in l) twice ∙ starts_same items place.number x y h e (ap (λ (b : CellBlock). b.at) same) ∙ ap (λ (s : Stored). s.starts) c.self.view_is
