use Rattle.std.proofs.Common.{◌≡◌, replicate, ap, ◌∙◌}
use Rattle.c_core.specs.declared.values.Cell.TheVariants.{Undefined}
use Rattle.c_core.specs.Blocks.{replaced}
use Rattle.block_memory.specs.Shape.{sizes_of}
use Rattle.block_memory.specs.Rooms.{room}
use Rattle.block_memory.proofs.Keeping.{sizes_placed}
use Rattle.packed_memory.proofs.RowSteps.{row_placed}
use Rattle.packed_memory.proofs.memory.PackedMemoryMemory.place.Goals as goal

pub invariant_of-self-2 : goal.invariant_of-self-2
invariant_of-self-2 c =
    let rows : c.clear.new.self ≡ replaced c.self.inside.cells c.args.at (replicate (room c.args.kind c.args.size) Undefined) = c.clear.ensures ∙ ap (λ k. replaced c.self.inside.cells c.args.at (replicate k Undefined)) c.room-count.ensures in
    let w = row_placed c.self.inside c.args.self.now c.self.view_is c.self.invariant c.args.kind c.args.size c.args.at c.requires.inside c.requires.free c.clear.new.self c.append.new.blocks.items rows c.in_ok-append.ensures.ok in
    record { small = w.small; inside = w.inside; clear = w.clear; kept = w.kept }

pub returns-clause-placed : goal.returns-clause-placed
returns-clause-placed c =
    let rows : c.clear.new.self ≡ replaced c.self.inside.cells c.args.at (replicate (room c.args.kind c.args.size) Undefined) = c.clear.ensures ∙ ap (λ k. replaced c.self.inside.cells c.args.at (replicate k Undefined)) c.room-count.ensures in
    let w = row_placed c.self.inside c.args.self.now c.self.view_is c.self.invariant c.args.kind c.args.size c.args.at c.requires.inside c.requires.free c.clear.new.self c.append.new.blocks.items rows c.in_ok-append.ensures.ok in
    w.placed_are

pub returns-clause-sizes : goal.returns-clause-sizes
returns-clause-sizes c =
    let rows : c.clear.new.self ≡ replaced c.self.inside.cells c.args.at (replicate (room c.args.kind c.args.size) Undefined) = c.clear.ensures ∙ ap (λ k. replaced c.self.inside.cells c.args.at (replicate k Undefined)) c.room-count.ensures in
    let w = row_placed c.self.inside c.args.self.now c.self.view_is c.self.invariant c.args.kind c.args.size c.args.at c.requires.inside c.requires.free c.clear.new.self c.append.new.blocks.items rows c.in_ok-append.ensures.ok in
    ap sizes_of w.placed_are ∙ sizes_placed c.args.self.now.blocks c.args.kind c.args.size

pub returns-clause-top : goal.returns-clause-top
returns-clause-top c =
    let rows : c.clear.new.self ≡ replaced c.self.inside.cells c.args.at (replicate (room c.args.kind c.args.size) Undefined) = c.clear.ensures ∙ ap (λ k. replaced c.self.inside.cells c.args.at (replicate k Undefined)) c.room-count.ensures in
    let w = row_placed c.self.inside c.args.self.now c.self.view_is c.self.invariant c.args.kind c.args.size c.args.at c.requires.inside c.requires.free c.clear.new.self c.append.new.blocks.items rows c.in_ok-append.ensures.ok in
    w.top
