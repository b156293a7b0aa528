-- A key in a lawful file: the record that is computed is the one with its name, and the only one.
use Prim.Native.Nat.{ℕ, zero, suc, ◌+◌, ◌-◌, ◌≤◌, ◌<◌}
use mathlib.Core.Path.{◌≡◌, refl, ap, sym, ◌∙◌, subst}
use mathlib.Core.Logic.{◌↔◌, ⊎_elim}
use mathlib.Core.List.{List, ◌∷◌}
use native.Mathlib.Omega.{arith}
use lib.ListN.{length, get_or}
use Rattle.base.proofs.Tests.{split}
use Rattle.rules.specs.Records.{next_at}
use Rattle.names_rules.specs.Names.{checked, offsets_from, offsets, with_key, record_with}
use Rattle.std.specs.Prelude.{Ok}
use Rattle.names_rules.proofs.Walking.{offsets_on, lawful_short, lawful_front}
use Rattle.names_rules.proofs.Offsets.{walked, key_hit, key_on, key-found}
use Rattle.names_rules.proofs.Loops.{checking_lawful}
use Rattle.names_laws.specs.Names.{name_key, SoundTo, front, past, Named, Unnamed}
use Rattle.names_laws.proofs.Agree.{sound_fits, comes_checking}

-- a record stands at `a`, behind others that are as they should be
record Stands (s : List ℕ) (a : ℕ) : Type 0 where
  low : ℕ
  before : SoundTo s a low
  there : a < length s

-- .. so it does at each offset from `at` on
abbrev AllStand : List ℕ → ℕ → ℕ → List ℕ → Type 0
AllStand s at low l = SoundTo s at low → (i : ℕ) → i < length l → Stands s (get_or l i 0)

-- the search for k has come to `at`
record Seeking (s : List ℕ) (k at : ℕ) : Type 0 where
  fuel : ℕ
  enough : length s ≤ fuel + at
  whole : record_with s k ≡ with_key s k (offsets_from fuel s at)

module _ (s : List ℕ) (k : ℕ) where
  -- no record before `at` has k, where all keys before it are less
  seek : {at low : ℕ} → SoundTo s at low → low ≤ k → Seeking s k at
  unfolding record_with offsets
  seek front h = record { fuel = length s; enough = omega arith; whole = refl }
  seek (past {at} {low} b l x) h =
      let y = seek b (omega (arith, x.ascends)) in
      let e : y.fuel ≡ suc (y.fuel - 1) = omega (arith, y.enough) in
      record {
        fuel = y.fuel - 1;
        enough = omega (arith, y.enough, x.whole.least);
        whole = y.whole ∙ ap (λ (f : ℕ). with_key s k (offsets_from f s at)) e ∙ ap (with_key s k) (offsets_on s at (y.fuel - 1) l)
            ∙ key_on s k at (offsets_from (y.fuel - 1) s (next_at s at)) (λ q. omega arith);
      }

  module _ (g : checked s ≡ Ok tt) where
    stands_at : (i : ℕ) → i < length (offsets s) → Stands s (get_or (offsets s) i 0)
    unfolding offsets
    stands_at =
        walked s (AllStand s) (λ at low w b i h. absurd (omega arith)) (λ at low l t x r b. go at low l t b (r (past b t (sound_fits s at low x)))) (length s) 0 0
        (omega arith) (lawful_front s g) front
      where
        go : (at low : ℕ) (l : List ℕ) → at < length s → SoundTo s at low → ((i : ℕ) → i < length l → Stands s (get_or l i 0)) → (i : ℕ) → i < suc (length l)
            → Stands s (get_or (at ∷ l) i 0)
        go at low l t b r zero h = record { low = low; before = b; there = t }
        go at low l t b r (suc i) h = r i (omega arith)

    -- a record that is found has the name
    found : record_with s k < length s → Named s k (record_with s k + 8) (next_at s (record_with s k))
    unfolding record_with
    found l =
        let r = key-found s k (offsets s) l in
        let x = subst (Stands s) (sym r.is) (stands_at r.number r.there) in
        record { at = record_with s k; low = x.low; before = x.before; there = x.there; has = ap (name_key s) r.is ∙ r.has; from = refl; to = refl }

    -- .. and the record that has the name is found
    pub named-is : {a e : ℕ} (x : Named s k a e) → x.at ≡ record_with s k
    named-is x =
        let f = checking_lawful (comes_checking s (lawful_short s g) x.before) x.there g in
        let y = seek x.before (omega (arith, f.ascends, x.has)) in
        let e : y.fuel ≡ suc (y.fuel - 1) = omega (arith, y.enough, x.there) in
        sym
        (y.whole ∙ ap (λ (n : ℕ). with_key s k (offsets_from n s x.at)) e ∙ ap (with_key s k) (offsets_on s x.at (y.fuel - 1) x.there)
        ∙ key_hit s k x.at (offsets_from (y.fuel - 1) s (next_at s x.at)) x.has)

    -- a key's stretch is that of the record which is found, where one is
    pub named_iff : (a e : ℕ) → Named s k a e ↔ ((record_with s k < length s) × (a ≡ record_with s k + 8) × (e ≡ next_at s (record_with s k)))
    named_iff a e = (
      λ x.
          let q = named-is x in
          (rw q at x.there, x.from ∙ ap (λ (i : ℕ). i + 8) q, x.to ∙ ap (next_at s) q),
      λ h. rw (h.1, h.2) (found h.0),
    )

    -- .. and else it has none
    pub unnamed_iff : Unnamed s k ↔ (length s ≤ record_with s k)
    unnamed_iff = (
      λ u. ⊎_elim (λ (l : record_with s k < length s). absurd (u _ _ (found l))) (λ l. l) (split (record_with s k) (length s)),
      λ h a e x. absurd (omega (arith, named-is x, x.there)),
    )
