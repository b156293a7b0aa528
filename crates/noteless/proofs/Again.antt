-- An edition 1 trace that is written again is the trace without its notes, its first serial kept.
use Prim.Native.Nat.{ℕ}
use mathlib.Core.Path.{◌≡◌, sym, ◌∙◌}
use mathlib.Core.Bool.{false}
use mathlib.Core.List.{List}
use Rattle.demand1.specs.Rows.{serial}
use Rattle.moving.specs.Moving.{moved_trace}
use Rattle.written.specs.Writes.{AllBytes}
use Rattle.written.specs.Rewrites.{WrittenAgain}
use Rattle.written.proofs.Whole.{first-whole}
use Rattle.written.proofs.Rewrites.{again-is}
use Rattle.noteless.specs.Without.{WithoutNotes}
use Rattle.noteless.proofs.Back.{back_without}

pub again_without : {s b : List ℕ} → AllBytes s → WrittenAgain s b → WithoutNotes (serial s 0) s b
unfolding moved_trace
again_without {s} {b} x a =
    let e : b ≡ moved_trace false (serial s 0) a.history = again-is a x ∙ sym (first-whole (serial s 0) a.history) in
    rw e (back_without x a.its_steps.first_edition a.reads)
