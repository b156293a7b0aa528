-- The contracts of `put_before` and `put_txs` leave one answer and one content.
use Rattle.std.proofs.Common.{◌≡◌, ℕ, List, arith}
use Rattle.base.proofs.Fill.{Appended, appended_one}
use Rattle.writing.specs.declared.Form.{Form}
use Rattle.writing.specs.Forms.{Marked, formed}
use Rattle.writing.proofs.Forms.{formed-length}
use Rattle.blocks.specs.declared.Place.{Place}
use Rattle.blocks.specs.Blocks.{PutBefore}

same_place : {r q : Place} → r.at ≡ q.at → r.count ≡ q.count → r ≡ q
same_place a c = λ i. record { at = a i; count = c i }

pub put-before_one : {form : Form} {n : ℕ} {o : List ℕ} {p : Place} {b c : List ℕ} {r q : Place} {ms : List Marked} → PutBefore form n o p b r ms
    → PutBefore form n o p c q ms → (b ≡ c) × (r ≡ q)
put-before_one {form} {n} {o} {p} {c = c} {r} {q} {ms} x y =
    let k : r.count ≡ q.count = omega (arith, x.count, y.count) in
    let a : r.at ≡ q.at = omega (arith, x.is.end, y.is.end, formed-length form n r.count n q.count ms) in
    let z : Appended o r.at c p.at (formed form n r.count ms) = rw (a, k) y.is in
    ((appended_one x.is z).0, same_place a k)
