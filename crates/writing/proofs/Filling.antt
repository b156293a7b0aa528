-- Answers that are what the definition gives a lent buffer.
use Prim.Native.Nat.{ℕ, ◌<◌, ◌≤◌}
use mathlib.Core.Path.{◌≡◌, refl, ap, sym}
use mathlib.Core.Bool.{true≢false, false≢true}
use mathlib.Core.List.{List}
use native.Mathlib.Omega.{arith}
use lib.ListN.{length}
use lib.Dec.{ltb}
use borrow.Author.Tests.{lt-ltb, le-ltb}
use Rattle.base.proofs.Fill.{Appended}
use Rattle.base.proofs.Tests.{pick_on, pick_off}
use Rattle.rules.specs.Numbers.{over}
use Rattle.rules.proofs.Numbers.{appended-over}
use Rattle.std.specs.Prelude.{Ok, Err}
use Rattle.rules.specs.Refusals.{cause_no, refusal_at}
use Rattle.rules.specs.declared.Cause.TheVariants.{OutputRoom}
use Rattle.rules.specs.declared.Refusal.{Refusal}
use Rattle.rules.proofs.Refusals.{refusal_one}
use Rattle.writing.specs.Filling.{Filled, Said, refusing, answering, said, refusal, content, fill_of, into}

-- an answer is known by what it says
pub said_one : (r q : Filled) → said r ≡ said q → r ≡ q
unfolding said
said_one (Err r) (Err q) e = ap Err (refusal_one (ap (λ (x : Said). x.no) e) (ap (λ (x : Said). x.place) e))
said_one (Err r) (Ok m) e = absurd (true≢false (ap (λ (x : Said). x.is_refused) e))
said_one (Ok n) (Err q) e = absurd (false≢true (ap (λ (x : Said). x.is_refused) e))
said_one (Ok n) (Ok m) e = ap Ok (ap (λ (x : Said). x.length) e)

-- a refusal
pub into_refused : (r : Refusal) (out : List ℕ) → fill_of (said (Err r)) out ≡ into (refusal (cause_no r.cause) r.place) out
unfolding said into
into_refused r out = refl

-- l does not fit; it does
pub into_short : (l o : List ℕ) → length o < length l → into (content l) o ≡ fill_of (refusing 16 (length l)) o
unfolding into
into_short l o h = pick_on (ltb (length o) (length l)) (fill_of (refusing 16 (length l)) o) (fill_of (answering (length l)) (over l o)) (lt-ltb (length o) (length l) h)

pub into-fits : (l o : List ℕ) → length l ≤ length o → into (content l) o ≡ fill_of (answering (length l)) (over l o)
unfolding into
into-fits l o h = pick_off (ltb (length o) (length l)) (fill_of (refusing 16 (length l)) o) (fill_of (answering (length l)) (over l o)) (le-ltb (length o) (length l) h)

-- so it was refused; so it was put
module _ (l : List ℕ) {out : List ℕ} where
  pub too_short : {n : ℕ} → n ≡ length l → length out < n → fill_of (said (Err (refusal_at OutputRoom n))) out ≡ into (content l) out
  unfolding said
  too_short e h = rw e (sym (into_short l out (omega arith)))

  pub filled : {b : List ℕ} {r : ℕ} → Appended out 0 b r l → fill_of (said (Ok r)) b ≡ into (content l) out
  unfolding said
  filled {b} {r} x =
      let e : r ≡ length l = omega (arith, x.end) in rw (e, appended-over x) (sym (into-fits l out (omega (arith, x.room))))
