-- Forced pairs against a claim's places: what is computed is what the document says.
use Prim.Native.Nat.{ℕ, ◌<◌, ◌≤◌}
use mathlib.Core.Path.{◌≡◌, refl, ap}
use mathlib.Core.Bool.{true, false, not}
use mathlib.Core.List.{List}
use mathlib.Core.Logic.{◌↔◌, ◌⊎◌, inl, inr, ⊎_elim}
use native.Mathlib.Omega.{arith}
use lib.ListN.{length}
use borrow.Author.Tests.{ltb-true, ltb-false, lt-ltb, le-ltb}
use Rattle.base.specs.Base.{◌and◌, first}
use Rattle.base.proofs.Tests.{clash, is_false, both, and_left, and_right, not-true, split}
use Rattle.base.proofs.Searches.{Found, first_cases, first-is}
use Rattle.theory.specs.Order.{place}
use Rattle.theory.proofs.Places.{place_same}
use Rattle.rules.specs.History.{History, size}
use Rattle.rules.specs.Levels.{forced}
use Rattle.rules.proofs.Forced.{forces, forced-apart}
use Rattle.demand1.specs.Lawful.{LawfulHistory}
use Rattle.demand2.specs.Kinds.{AllClean}
use Rattle.demand2.specs.Axiom.{Lists, StandsBefore, Shows}
use Rattle.demand2.proofs.Pairs.{member, in_members}
use Rattle.demand2.proofs.Accepted.{shows_iff}
use Rattle.demand3.specs.Forced.{IsForced}
use Rattle.demand3.proofs.Forced.{forced_iff}
use Rattle.claims_rules.specs.Claims.{is_backwards, second_of, is_first, least_first}
use Rattle.claims_laws.specs.Claims.{Backwards, LeastBackwards, RightOrder}

module _ {h : History} (ok : LawfulHistory h) {level : ℕ} (low : 1 ≤ level) (high : level ≤ 3) {o : List ℕ} (in-o : Lists h o) where
  -- forced pairs are of members, which have places
  placed : (a b : ℕ) → forced h level a b ≡ true → (place a o < length o) × (place b o < length o)
  placed a b e =
      let f = (forces h level).first_in a b e in
      let s = (forces h level).second_in a b e in
      (in-o.all a (member ok f.1), in-o.all b (member ok s.1))

  -- one pair
  backwards_iff : (a b : ℕ) → (is_backwards (forced h level) o a b ≡ true) ↔ Backwards h level o a b
  unfolding is_backwards
  backwards_iff a b = (
    λ t.
        let e = and_left _ _ t in
        let g = ltb-false (place a o) (place b o) (not-true _ (and_right _ _ t)) in
        let p = placed a b e in
        record {
          forced = (forced_iff ok low high a b).0 e;
          turned =
              record {
                earlier = ⊎_elim (λ l. l) (λ k. absurd (forced-apart h a b level e (place_same a b o p.0 p.1 (omega arith)))) (split (place b o) (place a o));
                there = p.0;
              };
        },
    λ x. both _ _ ((forced_iff ok low high a b).1 x.forced) (ap not (le-ltb (place a o) (place b o) (omega (arith, x.turned.earlier)))),
  )

  -- its numbers lie below the history's size
  backwards_below : {a b : ℕ} → Backwards h level o a b → (a < size h) × (b < size h)
  backwards_below {a} {b} x =
      let e = (forced_iff ok low high a b).1 x.forced in (((forces h level).first_in a b e).0, ((forces h level).second_in a b e).0)

  -- a first, and its least second
  abbrev second : ℕ → ℕ
  second a = second_of (size h) (forced h level) o a

  second_cases : (a : ℕ)
      → ((second_of (size h) (forced h level) o a ≡ size h) × ((b : ℕ) → Backwards h level o a b → ⊥))
      ⊎ Found (size h) (is_backwards (forced h level) o a) 0 (size h) (second_of (size h) (forced h level) o a)
  unfolding second_of
  second_cases a =
      ⊎_elim (λ z. inl (z.0, λ b x. clash ((backwards_iff a b).1 x) (z.1 b (omega arith) (backwards_below x).1))) (λ g. inr g)
      (first_cases (size h) (is_backwards (forced h level) o a) (size h) 0)

  no_first : (a : ℕ) → is_first (size h) (forced h level) o a ≡ false → (b : ℕ) → Backwards h level o a b → ⊥
  unfolding is_first
  no_first a e = ⊎_elim (λ z. z.1) (λ g. absurd (omega (arith, g.to, ltb-false (second a) (size h) e))) (second_cases a)

  -- the least of all
  pub least_is : least_first (size h) (forced h level) o < size h
      → LeastBackwards h level o (least_first (size h) (forced h level) o)
      (second_of (size h) (forced h level) o (least_first (size h) (forced h level) o))
  unfolding least_first is_first
  least_is l =
      let a : ℕ = least_first (size h) (forced h level) o in
      ⊎_elim (λ z. absurd (omega (arith, z.0)))
      (λ g.
      ⊎_elim (λ z. absurd (omega (arith, z.0, ltb-true (second a) (size h) g.passes)))
      (λ s.
      record {
        is = (backwards_iff a _).0 s.passes;
        least =
            λ c d.
            ⊎_elim (λ k x. no_first c (g.none c (omega arith) k) d x)
            (λ k x. clash ((backwards_iff a d).1 (rw k.0 at x)) (s.none d (omega arith) k.1));
      })
      (second_cases a))
      (first_cases (size h) (is_first (size h) (forced h level) o) (size h) 0)

  -- no pair stands the wrong way round
  pub none_is : size h ≤ least_first (size h) (forced h level) o → (a b : ℕ) → Backwards h level o a b → ⊥
  unfolding least_first
  none_is g a b x =
      ⊎_elim (λ z. no_first a (z.1 a (omega arith) (backwards_below x).0) b x) (λ f. absurd (omega (arith, f.to)))
      (first_cases (size h) (is_first (size h) (forced h level) o) (size h) 0)

  -- the least is found
  pub is_least : {a b : ℕ} → LeastBackwards h level o a b
      → (least_first (size h) (forced h level) o ≡ a) × (second_of (size h) (forced h level) o a ≡ b) × (a < size h)
  unfolding least_first second_of is_first
  is_least {a} {b} x =
      let k = backwards_below x.is in
      let at_b : second a ≡ b =
      first-is (size h) (is_backwards (forced h level) o a) (size h) 0 b
      (record {
        from = omega arith;
        to = k.1;
        passes = (backwards_iff a b).1 x.is;
        none = λ d _ l. is_false _ (λ t. x.least a d (inr (refl, l)) ((backwards_iff a d).0 t));
      }) in (
        first-is (size h) (is_first (size h) (forced h level) o) (size h) 0 a
            (record {
              from = omega arith;
              to = k.0;
              passes = lt-ltb (second a) (size h) (omega (arith, at_b, k.1));
              none =
                  λ c _ l.
                  le-ltb (second c) (size h) (⊎_elim (λ z. omega (arith, z.0)) (λ g. absurd (x.least c _ (inl l) ((backwards_iff c _).0 g.passes))) (second_cases c));
            }),
        at_b,
        k.0,
      )

  pub is_none : ((a b : ℕ) → Backwards h level o a b → ⊥) → least_first (size h) (forced h level) o ≡ size h
  unfolding least_first is_first
  is_none d =
      ⊎_elim (λ z. z.0)
      (λ g.
      let a : ℕ = least_first (size h) (forced h level) o in
      ⊎_elim (λ z. absurd (omega (arith, z.0, ltb-true (second a) (size h) g.passes))) (λ s. absurd (d _ _ ((backwards_iff a _).0 s.passes))) (second_cases a))
      (first_cases (size h) (is_first (size h) (forced h level) o) (size h) 0)

  -- ── the whole claim ──

  -- it contains every forced pair exactly if none stands the wrong way round
  pub turned_iff : ((a b : ℕ) → Backwards h level o a b → ⊥) ↔ ((a b : ℕ) → IsForced h level a b → StandsBefore o a b)
  unfolding is_backwards
  turned_iff = (
    λ d a b x.
        let e = (forced_iff ok low high a b).1 x in
        record {
          earlier = ⊎_elim (λ l. l) (λ g. absurd (d a b ((backwards_iff a b).0 (both _ _ e (ap not (le-ltb _ _ g)))))) (split (place a o) (place b o));
          there = (placed a b e).1;
        },
    λ f a b x. omega (arith, (f a b x.forced).earlier, x.turned.earlier),
  )

-- the document's words and the published axioms say the same of a claim
pub right_iff : {h : History} → LawfulHistory h → {level : ℕ} → 1 ≤ level → level ≤ 3 → (o : List ℕ) → RightOrder h level o ↔ (AllClean h × Shows h level o)
right_iff {h} ok {level} low high o = (
  λ r.
      let l = r.members in (
        r.clean,
        (shows_iff ok low high r.clean o).1
            (record {
              lists = λ i k. let m = l.are i k in (m.below, in_members ok m);
              once = l.once;
              has = λ a k c. l.all a (member ok c);
              first = l.zero_first;
              before = λ a b e. (r.pairs a b ((forced_iff ok low high a b).0 e)).earlier;
            }),
      ),
  λ x.
      let w = (shows_iff ok low high x.0 o).0 x.1 in
      record {
        clean = x.0;
        members = x.1.lists;
        pairs =
            λ a b f.
            let e = (forced_iff ok low high a b).1 f in
            let s = (forces h level).second_in a b e in
            record { earlier = w.before a b e; there = w.has b s.0 s.1 };
      },
)
