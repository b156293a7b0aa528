-- Two files: the refusal, the place of a name and the part that is handed back are those of the conditions, and no others.
use Prim.Native.Nat.{ℕ, ◌+◌, ◌≤◌, ◌<◌}
use mathlib.Core.Path.{◌≡◌, refl, sym, ◌∙◌, subst}
use mathlib.Core.Logic.{◌↔◌, ⊎_elim}
use mathlib.Core.List.{List}
use lib.ListN.{length}
use Rattle.base.proofs.Tests.{split}
use Rattle.rules.specs.Numbers.{part}
use Rattle.std.specs.Prelude.{Option, None, Some, Ok, Err}
use Rattle.names_rules.specs.Names.{FileCheck, checked, record_with, of_two, FilesCheck, refusal, stretch, place_in, place_of, bytes_at, memory_at}
use Rattle.names_rules.specs.declared.NamesFile.{NamesFile}
use Rattle.names_rules.specs.declared.NamesFile.TheVariants.{Own, Shared}
use Rattle.names_rules.specs.declared.NamePlace.{NamePlace}
use Rattle.names_rules.proofs.Places as P
use Rattle.names_laws.specs.Names.{NamesLawful, FilesSay, own_refused, shared_refused, both_lawful, NameAnswer, on_refusal, in_own, in_shared, in_neither, HandsBack, of_own, of_shared, of_none}
use Rattle.names_laws.proofs.Agree.{lawful_iff, refused_iff}
use Rattle.names_laws.proofs.Stretches.{named-is, named_iff, unnamed_iff}

module _ (own shared : List ℕ) where
  -- ── the refusal ──

  says : FilesSay own shared (refusal own shared)
  says = go (checked own) (checked shared) refl refl
    where
      go : (x y : FileCheck) → checked own ≡ x → checked shared ≡ y → FilesSay own shared (refusal own shared)
      go (Err d) y p q = subst (FilesSay own shared) (P.own_refused own shared (sym p) refl) (own_refused ((refused_iff own d.no d.place).0 p))
      go (Ok x) (Err d) p q =
          subst (FilesSay own shared) (P.shared_refused own shared (sym p) refl (sym q) refl)
          (shared_refused ((lawful_iff own).0 p) ((refused_iff shared d.no d.place).0 q))
      go (Ok x) (Ok y) p q =
          subst (FilesSay own shared) (P.accepted own shared (sym p) refl (sym q) refl) (both_lawful ((lawful_iff own).0 p) ((lawful_iff shared).0 q))

  says_is : {r : FilesCheck} → FilesSay own shared r → r ≡ refusal own shared
  says_is (own_refused {n} {p} x) = P.own_refused own shared (sym ((refused_iff own n p).1 x)) refl
  says_is (shared_refused {n} {p} x y) = P.shared_refused own shared (sym ((lawful_iff own).1 x)) refl (sym ((refused_iff shared n p).1 y)) refl
  says_is (both_lawful x y) = P.accepted own shared (sym ((lawful_iff own).1 x)) refl (sym ((lawful_iff shared).1 y)) refl

  -- the two are refused exactly on the rows, own file first, or accepted
  pub says_iff : (r : FilesCheck) → (r ≡ refusal own shared) ↔ FilesSay own shared r
  says_iff r = (λ e. subst (FilesSay own shared) (sym e) says, says_is)

  -- ── the place of a name ──

  module _ (k : ℕ) where
    in_lawful : NamesLawful own → NamesLawful shared → place_in own shared k ≡ place_of own shared k
    in_lawful x y = P.in_lawful own shared k (says_is (both_lawful x y)) refl

    answers : NameAnswer own shared k (place_of own shared k)
    answers = go (refusal own shared) says refl
      where
        lawful : NamesLawful own → NamesLawful shared → NameAnswer own shared k (place_of own shared k)
        lawful x y =
            let g = (lawful_iff own).1 x in
            let h = (lawful_iff shared).1 y in
            subst (NameAnswer own shared k) (in_lawful x y)
            (⊎_elim
            (λ (l : record_with own k < length own).
            subst (NameAnswer own shared k) (P.place-own own shared k refl l refl) (in_own x y ((named_iff own k g _ _).1 (l, refl, refl))))
            (λ (n : length own ≤ record_with own k).
            ⊎_elim
            (λ (l : record_with shared k < length shared).
            subst (NameAnswer own shared k) (P.place-shared own shared k refl n refl l refl)
            (in_shared x y ((unnamed_iff own k g).1 n) ((named_iff shared k h _ _).1 (l, refl, refl))))
            (λ (l : length shared ≤ record_with shared k).
            subst (NameAnswer own shared k) (P.place_none own shared k refl n refl l) (in_neither x y ((unnamed_iff own k g).1 n) ((unnamed_iff shared k h).1 l)))
            (split (record_with shared k) (length shared)))
            (split (record_with own k) (length own)))

        go : (r : FilesCheck) → FilesSay own shared r → r ≡ refusal own shared → NameAnswer own shared k (place_of own shared k)
        go (Err d) t p = subst (NameAnswer own shared k) (P.nowhere own shared k p refl) (on_refusal t)
        go (Ok u) (both_lawful x y) p = lawful x y

    answers_is : {x : Option NamePlace} → NameAnswer own shared k x → x ≡ place_of own shared k
    answers_is (on_refusal x) = P.nowhere own shared k (says_is x) refl
    answers_is (in_own x y z) =
        rw (z.from, z.to) (P.place-own own shared k (named-is own k ((lawful_iff own).1 x) z) z.there refl ∙ in_lawful x y)
    answers_is (in_shared x y u z) =
        rw (z.from, z.to)
        (P.place-shared own shared k refl ((unnamed_iff own k ((lawful_iff own).1 x)).0 u) (named-is shared k ((lawful_iff shared).1 y) z) z.there refl
        ∙ in_lawful x y)
    answers_is (in_neither x y u v) =
        P.place_none own shared k refl ((unnamed_iff own k ((lawful_iff own).1 x)).0 u) refl ((unnamed_iff shared k ((lawful_iff shared).1 y)).0 v)
        ∙ in_lawful x y

    -- the answer is where the own file has the name, failing that the shared one, failing that nowhere, as on refusal
    pub answers_iff : (x : Option NamePlace) → (x ≡ place_of own shared k) ↔ NameAnswer own shared k x
    answers_iff x = (λ e. subst (NameAnswer own shared k) (sym e) answers, answers_is)

    -- ── the part that is handed back ──

    module _ (p q : ℕ × ℕ) where
      in_file : (f : NamesFile) (a e : ℕ) → Some (stretch f a e) ≡ place_of own shared k → {l : List ℕ} {w : ℕ × ℕ} → l ≡ part a e (of_two own shared f)
          → w ≡ ((of_two p q f).0, a + (of_two p q f).1) → HandsBack own shared p q k l w
      in_file Own a e h b m = of_own ((answers_iff (Some (stretch Own a e))).0 h) b m
      in_file Shared a e h b m = of_shared ((answers_iff (Some (stretch Shared a e))).0 h) b m

      at_place : (x : Option NamePlace) → x ≡ place_of own shared k → {l : List ℕ} {w : ℕ × ℕ} → l ≡ bytes_at own shared x → w ≡ memory_at p q x → HandsBack own shared p q k l w
      unfolding bytes_at memory_at
      at_place (Some x) h b m = in_file x.file x.from x.to h b m
      at_place None h b m = of_none ((answers_iff None).0 h) b m

      handed : {l : List ℕ} {w : ℕ × ℕ} → HandsBack own shared p q k l w → (l ≡ bytes_at own shared (place_of own shared k)) × (w ≡ memory_at p q (place_of own shared k))
      unfolding bytes_at memory_at
      handed (of_own a b m) = rw (← answers_is a) (b, m)
      handed (of_shared a b m) = rw (← answers_is a) (b, m)
      handed (of_none a b m) = rw (← answers_is a) (b, m)

      -- what is handed back is the stretch itself: these bytes, in this file, from there on
      pub hands_iff : (l : List ℕ) (w : ℕ × ℕ)
          → ((l ≡ bytes_at own shared (place_of own shared k)) × (w ≡ memory_at p q (place_of own shared k))) ↔ HandsBack own shared p q k l w
      hands_iff l w = (λ h. at_place (place_of own shared k) refl h.0 h.1, handed)

      -- and the conditions leave one
      pub hands_one : {l m : List ℕ} {v w : ℕ × ℕ} → HandsBack own shared p q k l v → HandsBack own shared p q k m w → (l ≡ m) × (v ≡ w)
      hands_one x y = ((handed x).0 ∙ sym (handed y).0, (handed x).1 ∙ sym (handed y).1)
