-- A definition that comes out as the conditions say keeps the promise of a call that fills a buffer; and the promise leaves one outcome.
use Prim.Native.Nat.{ℕ}
use mathlib.Core.Path.{◌≡◌, refl, ap, sym, ◌∙◌}
use mathlib.Core.Bool.{true, true≢false, false≢true}
use mathlib.Core.List.{List}
use mathlib.Core.Logic.{◌⊎◌, inl, inr, ⊎_elim, ◌↔◌}
use lib.ListN.{length}
use Rattle.std.specs.Prelude.{Result, Ok, Err}
use Rattle.rules.specs.Numbers.{over}
use Rattle.rules.specs.Refusals.{cause_no, Declined}
use Rattle.writing.specs.Filling.{Said, refusing, answering, said, Fill, fill_of, Filled}
use Rattle.written.specs.Fills.{FilledWith, FillsBy, Fills, saying}

-- ── the promise is kept ──

-- the outcome x of a call with a buffer that holds o: each refusal of D is its own
module _ (D : ℕ → ℕ → Type 0) (P : List ℕ → Type 0) (o : List ℕ) (x : Fill) (declined_is : (m p : ℕ) → D m p → x ≡ fill_of (refusing m p) o) where
  -- a refusal, or something that P says
  pub data CameOut : Type 0 where
    declining : (m p : ℕ) → D m p → CameOut
    putting : (l : List ℕ) → P l → x ≡ fill_of (answering (length l)) (over l o) → CameOut

  module _ (out : CameOut) where
    pub declines_iff : (m p : ℕ) → (x.answer ≡ refusing m p) ↔ D m p
    declines_iff m p = (λ e. by out e, λ d. ap (λ (y : Fill). y.answer) (declined_is m p d))
      where
        by : CameOut → x.answer ≡ refusing m p → D m p
        by (declining a b d) e =
            let z : refusing a b ≡ refusing m p = sym (ap (λ (y : Fill). y.answer) (declined_is a b d)) ∙ e in
            rw (← ap (λ (y : Said). y.no) z, ← ap (λ (y : Said). y.place) z) d
        by (putting l g i) e = absurd (false≢true (sym (ap (λ (y : Fill). y.answer.is_refused) i) ∙ ap (λ (y : Said). y.is_refused) e))

    -- any answer and content that the contract admits, whatever says an answer's numbers
    pub fills_by : {R : Type 0} (says : R → Said) (r : R) (c : List ℕ) → fill_of (says r) c ≡ x → FillsBy says D P o r c
    fills_by says r c e =
        record {
          refused = λ m p. (λ q. (declines_iff m p).0 (sym answer ∙ q), λ d. answer ∙ (declines_iff m p).1 d);
          unchanged = by-refusal out;
          filled = λ m. by_length m out;
        }
      where
        answer : says r ≡ x.answer
        answer = ap (λ (y : Fill). y.answer) e

        buffer : c ≡ x.buffer
        buffer = ap (λ (y : Fill). y.buffer) e

        by-refusal : CameOut → (says r).is_refused ≡ true → c ≡ o
        by-refusal (declining m p d) t = buffer ∙ ap (λ (y : Fill). y.buffer) (declined_is m p d)
        by-refusal (putting l g i) t = absurd (true≢false (sym t ∙ ap (λ (y : Said). y.is_refused) answer ∙ ap (λ (y : Fill). y.answer.is_refused) i))

        by_length : (m : ℕ) → CameOut → says r ≡ answering m → FilledWith P o c m
        by_length m (declining a p d) q =
            absurd (true≢false (sym (ap (λ (y : Fill). y.answer.is_refused) (declined_is a p d)) ∙ sym (ap (λ (y : Said). y.is_refused) answer) ∙ ap (λ (y : Said). y.is_refused) q))
        by_length m (putting l g i) q =
            record {
              content = l;
              good = g;
              long = sym (ap (λ (y : Said). y.length) q) ∙ ap (λ (y : Said). y.length) answer ∙ ap (λ (y : Fill). y.answer.length) i;
              is = buffer ∙ ap (λ (y : Fill). y.buffer) i;
            }

    -- .. of the answers that calls give
    pub fills : (r : Filled) (c : List ℕ) → fill_of (said r) c ≡ x → Fills D P o r c
    fills = fills_by said

-- ── it leaves one outcome ──

-- what an answer says: a refusal or a length
abbrev Outcome : Said → Type 0
Outcome a = ((m : ℕ) × (p : ℕ) × (a ≡ refusing m p)) ⊎ ((m : ℕ) × (a ≡ answering m))

said_cases : (r : Filled) → Outcome (said r)
unfolding said
said_cases (Err r) = inl (cause_no r.cause, r.place, refl)
said_cases (Ok m) = inr (m, refl)

saying_cases : (r : Result ℕ Declined) → Outcome (saying r)
unfolding saying
saying_cases (Err r) = inl (r.no, r.place, refl)
saying_cases (Ok m) = inr (m, refl)

-- where P leaves one content
module _ {D : ℕ → ℕ → Type 0} {P : List ℕ → Type 0} (one : (x y : List ℕ) → P x → P y → x ≡ y) {o : List ℕ} where
  module _ {R : Type 0} {says : R → Said} {r q : R} {c d : List ℕ} (x : FillsBy says D P o r c) (y : FillsBy says D P o q d) where
    both_refused : (m p : ℕ) → says r ≡ refusing m p → (says r ≡ says q) × (c ≡ d)
    both_refused m p e =
        let f : says q ≡ refusing m p = (y.refused m p).1 ((x.refused m p).0 e) in
        (e ∙ sym f, x.unchanged (ap (λ (a : Said). a.is_refused) e) ∙ sym (y.unchanged (ap (λ (a : Said). a.is_refused) f)))

    both_filled : (m k : ℕ) → says r ≡ answering m → says q ≡ answering k → (says r ≡ says q) × (c ≡ d)
    both_filled m k e f =
        let u = x.filled m e in
        let v = y.filled k f in
        let t : u.content ≡ v.content = one u.content v.content u.good v.good in
        let l : m ≡ k = u.long ∙ ap length t ∙ sym v.long in
        (e ∙ ap answering l ∙ sym f, u.is ∙ ap (λ (a : List ℕ). over a o) t ∙ sym v.is)

    coincide : Outcome (says r) → Outcome (says q) → (says r ≡ says q) × (c ≡ d)
    coincide of_r of_q =
        ⊎_elim (λ u. both_refused u.0 u.1 u.2)
        (λ u.
        ⊎_elim
        (λ v.
        let e : says r ≡ refusing v.0 v.1 = (x.refused v.0 v.1).1 ((y.refused v.0 v.1).0 v.2) in
        absurd (false≢true (ap (λ (a : Said). a.is_refused) (sym u.1 ∙ e))))
        (λ v. both_filled u.0 v.0 u.1 v.1) of_q)
        of_r

  pub fills_one : {r q : Filled} {c d : List ℕ} → Fills D P o r c → Fills D P o q d → (said r ≡ said q) × (c ≡ d)
  fills_one {r} {q} x y = coincide x y (said_cases r) (said_cases q)

  -- .. of answers that may have any number
  pub saying_one : {r q : Result ℕ Declined} {c d : List ℕ} → FillsBy saying D P o r c → FillsBy saying D P o q d → (saying r ≡ saying q) × (c ≡ d)
  saying_one {r} {q} x y = coincide x y (saying_cases r) (saying_cases q)
