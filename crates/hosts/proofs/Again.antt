-- What is written again has left out the trace's notes.
use Prim.Native.Nat.{ℕ}
use mathlib.Core.List.{List}
use Rattle.writing.specs.Filling.{Filled}
use Rattle.written.specs.Fills.{Fills}
use Rattle.written.specs.Writes.{AllBytes}
use Rattle.written.specs.Rewrites.{WrittenAgain}
use Rattle.noteless.proofs.Again.{again_without}
use Rattle.hosts.specs.Hosts.{NotesLeftOut}

pub left_out : {s : List ℕ} → AllBytes s → {D : ℕ → ℕ → Type 0} {o : List ℕ} {r : Filled} {B : List ℕ} → Fills D (WrittenAgain s) o r B → NotesLeftOut s o r B
left_out b f m e =
    let u = f.filled m e in
    record { content = u.content; good = again_without b u.good; long = u.long; is = u.is }
