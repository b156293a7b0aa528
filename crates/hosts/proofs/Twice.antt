-- Two calls that keep their promise coincide.
use Prim.Native.Nat.{ℕ}
use mathlib.Core.Path.{◌≡◌}
use mathlib.Core.List.{List}
use Rattle.writing.proofs.Filling.{said_one}
use Rattle.written.specs.Writes.{WritesTrace}
use Rattle.written.proofs.Writes.{writes_one}
use Rattle.two.specs.declared.Two.{Two}
use Rattle.writing.specs.Filling.{Filled}
use Rattle.hosts.specs.Hosts.{SameAnswers, WrittenTwice}

pub twice : {s : List ℕ} {n : ℕ} {o p : List ℕ} {r : Two Filled} {B C : List ℕ} → WritesTrace s n o r.one B → WritesTrace s n p r.other C
    → WrittenTwice s n o p r B C
twice {s} {n} {o} {p} {r} {B} {C} a b = record { first = a; second = b; same = alike }
  where
    alike : o ≡ p → SameAnswers r B C
    alike e =
        let b' : WritesTrace s n o r.other C = rw e b in
        let z = writes_one a b' in
        record { answer = said_one r.one r.other z.0; buffer = z.1 }
