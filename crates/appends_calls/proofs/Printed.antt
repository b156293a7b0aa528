-- The text that is computed of the lists of a trace is what the request says is printed, and no other text is.
use Prim.Native.Nat.{ℕ, ◌<◌}
use mathlib.Core.Path.{◌≡◌, refl, ap, sym, ◌∙◌}
use mathlib.Core.List.{List, [], ◌∷◌}
use mathlib.Core.Logic.{◌↔◌}
use native.Mathlib.Omega.{arith}
use Rattle.base.specs.Base.{joined}
use Rattle.theory.specs.Entries.{In, here, there}
use Rattle.theory.proofs.Entries.{all_of_one}
use Rattle.rules.specs.History.{History}
use Rattle.rules.specs.Reading.{Reading, refused, read, reading}
use Rattle.rules.specs.Outcome.{Pair}
use Rattle.text.specs.Lines.{text, line}
use Rattle.demand1.specs.Lawful.{LawfulHistory}
use Rattle.demand1.proofs.Lawful.{lawful_history}
use Rattle.demand1.proofs.Readings.{refuses_iff, has_read, read_has}
use Rattle.appends_rules.specs.Appends.{lists_in}
use Rattle.appends_rules.specs.ListKinds.{is_clean_list}
use Rattle.appends_rules.specs.Dependencies.{dep_reasons, write_pairs, dep_pairs}
use Rattle.appends_rules.specs.ListOutcome.{list_findings}
use Rattle.appends_laws.specs.ListFits.{IsCleanness}
use Rattle.appends_laws.specs.ListPairs.{DepReasons}
use Rattle.appends_laws.specs.ListFindings.{ListFinding}
use Rattle.appends_laws.specs.ListBytes.{Sixteen}
use Rattle.appends_laws.proofs.ListFits.{test-is_cleanness}
use Rattle.appends_laws.proofs.ListFindings.{list_findings_are, fault_one}
use Rattle.appends_laws.proofs.ListPairs.{dep_reasons_are, write_pairs_are, dep_pairs_are, pairs-over_one}
use Rattle.appends_laws.proofs.ListBytes.{finding_kind, finding_fault, list_kind_one, dep_reasons_one}
use Rattle.appends_text.specs.ListsText.{lists_line, fault_text, write_text, both_text, told_text, lists_read_text, lists_text}
use Rattle.appends_calls.specs.Printed.{FaultsPrinted, no_fault, one_fault, DepsPrinted, no_dep, one_dep, ListsPrinted, on_refusal, on_reading}

-- ── lines ──

-- the lines of these pairs, where f gives the reasons of each
abbrev dep_line : List ℕ → (ℕ → ℕ → ℕ) → Pair → List ℕ
dep_line word f p = line word (p.one ∷ p.two ∷ f p.one p.two ∷ [])

deps_printed : (word : List ℕ) (R : ℕ → ℕ → ℕ → Type 0) (f : ℕ → ℕ → ℕ) → ((a b : ℕ) → R a b (f a b)) → (ps : List Pair)
    → DepsPrinted word R ps (joined (dep_line word f) ps)
unfolding joined
deps_printed word R f r [] = no_dep
deps_printed word R f r (p ∷ ps) = one_dep (r p.one p.two) (deps_printed word R f r ps)

-- one text of them
deps_one : {word : List ℕ} {R : ℕ → ℕ → ℕ → Type 0} → ((a b n m : ℕ) → R a b n → R a b m → n ≡ m) → {ps : List Pair} {xs ys : List ℕ}
    → DepsPrinted word R ps xs → DepsPrinted word R ps ys → xs ≡ ys
deps_one one no_dep no_dep = refl
deps_one one (one_dep x p) (one_dep y q) = rw (one _ _ _ _ x y, deps_one one p q)

module _ {h : History} (ok : LawfulHistory h) (l : ℕ → List ℕ) {C : ℕ → Type 0} (are : IsCleanness h l C) where
  faults_printed : (is : List ℕ) → ((i : ℕ) → In i is → ListFinding h l C i) → FaultsPrinted h l C is (joined (fault_text h l) is)
  unfolding joined fault_text
  faults_printed [] f = no_fault
  faults_printed (i ∷ is) f =
      let x = f i (here refl) in one_fault (finding_kind ok l are x) (finding_fault ok l are x) (faults_printed is (λ j m. f j (there m)))

  faults_one : {is xs ys : List ℕ} → FaultsPrinted h l C is xs → FaultsPrinted h l C is ys → xs ≡ ys
  faults_one no_fault no_fault = refl
  faults_one (one_fault x m p) (one_fault y n q) = let e = list_kind_one ok l are x y in rw (e, fault_one ok l are _ (rw e at m) n, faults_one p q)

  -- those of all findings, and of all pairs
  all_faults : FaultsPrinted h l C (list_findings h l) (joined (fault_text h l) (list_findings h l))
  all_faults = faults_printed (list_findings h l) (λ i m. ((list_findings_are ok l are).entries i).0 m)

  all_writes : DepsPrinted (text "write") Sixteen (write_pairs h l) (joined write_text (write_pairs h l))
  unfolding write_text
  all_writes = deps_printed (text "write") Sixteen (λ a b. 16) (λ a b. refl) (write_pairs h l)

  all_both : DepsPrinted (text "both") (DepReasons h l C) (dep_pairs h l) (joined (both_text h l) (dep_pairs h l))
  unfolding both_text
  all_both = deps_printed (text "both") (DepReasons h l C) (dep_reasons h l) (dep_reasons_are ok l are) (dep_pairs h l)

-- ── the whole ──

module _ (s : List ℕ) where
  printed_of : (r : Reading) → reading s ≡ r → ListsPrinted s (lists_read_text s r)
  unfolding lists_read_text told_text lists_line
  printed_of (refused n p) e = on_refusal ((refuses_iff s n p).0 e)
  printed_of (read h n) e =
      let ok = lawful_history (has_read e) in
      let l = lists_in s h in
      let c = test-is_cleanness ok l in
      on_reading {c = is_clean_list h l} (has_read e) c (list_findings_are ok l c) (write_pairs_are ok l c) (dep_pairs_are ok l c) (all_faults ok l c) (all_writes ok l c)
      (all_both ok l c)

  -- what is computed is printed
  lists_printed : ListsPrinted s (lists_text s)
  unfolding lists_text
  lists_printed = printed_of (reading s) refl

  -- and nothing else is
  printed_is : {x : List ℕ} → ListsPrinted s x → lists_text s ≡ x
  unfolding lists_text lists_read_text told_text lists_line
  printed_is (on_refusal {n = n} {p = p} r) = ap (lists_read_text s) ((refuses_iff s n p).1 r)
  printed_is (on_reading {h = h} r c f w b u v z) =
      let ok = lawful_history r in
      let l = lists_in s h in
      let e = all_of_one ◌<◌ (λ i j a b. omega arith) f (list_findings_are ok l c) in
      let d = pairs-over_one w (write_pairs_are ok l c) in
      let g = pairs-over_one b (dep_pairs_are ok l c) in
      let x = faults_one ok l c (rw e at u) (all_faults ok l c) in
      let y = deps_one (λ a b n m p q. p ∙ sym q) (rw d at v) (all_writes ok l c) in
      let t = deps_one (dep_reasons_one ok l c) (rw g at z) (all_both ok l c) in
      ap (lists_read_text s) (read_has r) ∙ rw (e, d, g, x, y, t)

  -- so the text is the one that the request says
  pub lists_printed_iff : (t : List ℕ) → (lists_text s ≡ t) ↔ ListsPrinted s t
  lists_printed_iff t = (λ e. rw e at lists_printed, λ p. printed_is p)
