use Rattle.std.proofs.Common.{◌≡◌, ℕ, List, ◌++◌, ◌*◌, ◌/◌, ◌≤◌, length, take, arith}
use Rattle.std.proofs.lemmas.List.{take-append-drop}
use Rattle.sip24.proofs.Reading.{joined_pieces}
use Rattle.sip24.proofs.hasher.Sip24.update.Goals as goal

pub returns : goal.returns
returns c = λ key message held.
    let head : List ℕ = c.split_at.result.0.now in
    let rest : List ℕ = c.split_at.result.1.now in
    let n : ℕ = length rest / 8 in
    let fits : 8 * n ≤ length rest = omega arith in
    let e : n * 8 ≡ 8 * n = omega arith in
    let second : take (8 * n) rest ++ c.as_chunks.result.1.now ≡ rest =
    rw (c.as_chunks.ensures.back, e) (take-append-drop (8 * n) rest) in
    let first : head ++ rest ≡ c.args.bytes.now = rw (c.split_at.ensures.front, c.split_at.ensures.back) (take-append-drop _ c.args.bytes.now) in
    let s1 = c.add_few-2.ensures.added key message held in
    let s2 = c.add_chunks.ensures.added key (message ++ head) rest n fits c.as_chunks.ensures.front s1 in
    let s3 = c.add_few-3.ensures.added key _ s2 in
    rw (joined_pieces message head (take (8 * n) rest) c.as_chunks.result.1.now rest c.args.bytes.now second first) at s3
