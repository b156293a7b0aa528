-- What is computed of a trace is what the request's words ask for, and no other answer is.
use Prim.Native.Nat.{ℕ, ◌<◌}
use mathlib.Core.Path.{◌≡◌, refl, sym, ap, ◌∙◌}
use mathlib.Core.Bool.{Bool, true}
use mathlib.Core.List.{List}
use mathlib.Core.Logic.{◌↔◌}
use native.Mathlib.Omega.{arith}
use lib.Dec.{ltb}
use borrow.Author.Tests.{ltb-true, lt-ltb}
use Rattle.base.specs.Base.{◌and◌}
use Rattle.base.proofs.Tests.{ifso, clash, same_test, is_false, is_true, both, and_left, and_right, pick_on, pick_off}
use Rattle.rules.specs.History.{History, committed}
use Rattle.rules.specs.Reading.{Reading, refused, read, reading}
use Rattle.rules.specs.Levels.{leads}
use Rattle.demand1.specs.Lawful.{LawfulHistory}
use Rattle.demand1.specs.Rows.{Refuses}
use Rattle.demand1.proofs.Lawful.{lawful_history}
use Rattle.demand1.proofs.Readings.{refuses_iff, has_read, read_has}
use Rattle.demand2.specs.Axiom.{Member}
use Rattle.demand2.proofs.Pairs.{member, in_members}
use Rattle.demand3.specs.Forced.{Way, IsBasic}
use Rattle.demand3.proofs.Forced.{basic_way_iff}
use Rattle.vectors_rules.specs.Vectors.{session_no, vector_of, basic_cycle}
use Rattle.vectors_rules.proofs.Greatest.{greatest_one}
use Rattle.vectors_laws.specs.Vectors.{NoBasicCycle}
use Rattle.vectors_laws.proofs.Vectors.{own_vectors_are, no_cycle_iff}
use Rattle.std.specs.Prelude.{Option, None, Some, Ok, Err}
use Rattle.rules.specs.Refusals.{cause_no, told}
use Rattle.rules.specs.declared.Refusal.{Refusal}
use Rattle.rules.proofs.Refusals.{declined_one, told_one}
use Rattle.vectors_calls.specs.declared.LedBy.{LedBy}
use Rattle.vectors_calls.specs.declared.LedBy.TheVariants.{ByVectors, ByTable}
use Rattle.vectors_calls.specs.Calls.{LedAnswer, EntryAnswer, SaysLeads, on_refusal, by_vectors, by_table, EntryOf, TellsLatest, on_cycle, on_latest}
use Rattle.vectors_calls.specs.Answers.{said_of, said_read, entry_of, told_of, told_read}

-- ── of a history ──

module _ {h : History} (ok : LawfulHistory h) where
  -- "basic pairs form [a] cycle" exactly if the test finds one
  to_cycle : (NoBasicCycle h → ⊥) → basic_cycle h ≡ true
  to_cycle d = is_true _ (λ e. d ((no_cycle_iff ok).0 e))

  from_cycle : basic_cycle h ≡ true → NoBasicCycle h → ⊥
  from_cycle e f = clash e ((no_cycle_iff ok).1 f)

  -- an answer that is right about a and b is the computed one
  right : {w : Bool} (a b : ℕ) → (w ≡ true) ↔ Way (IsBasic h) a b → w ≡ leads h a b
  right {w} a b i = same_test w (leads h a b) (λ t. (basic_way_iff ok a b).1 (i.0 t)) (λ t. i.1 ((basic_way_iff ok a b).0 t))

  -- the entry that is computed is the one asked for, and no other is
  entry-is : (t a : ℕ) → EntryOf h t a (entry_of h t a)
  unfolding entry_of session_no
  entry-is t a =
      record {
        of_session =
            λ l m. rw (pick_on (ltb 0 a and committed h a) (vector_of h t (session_no h a)) 0 (both _ _ (lt-ltb 0 a l) (in_members ok m))) ((own_vectors_are ok).is t (session_no h a));
        of_none =
            λ d. pick_off (ltb 0 a and committed h a) _ _ (is_false _ (λ e. d (ltb-true 0 a (and_left _ _ e)) (member ok (and_right _ _ e))));
      }

  entry_one : {t a x y : ℕ} → EntryOf h t a x → EntryOf h t a y → x ≡ y
  entry_one {t} {a} e f =
      ifso (ltb 0 a and committed h a)
      (λ c.
      let l = ltb-true 0 a (and_left _ _ c) in
      let m = member ok (and_right _ _ c) in
      greatest_one (e.of_session l m) (f.of_session l m))
      (λ c.
      let d : 0 < a → Member h a → ⊥ = λ l m. clash (both _ _ (lt-ltb 0 a l) (in_members ok m)) c in
      e.of_none d ∙ sym (f.of_none d))

-- ── of a trace ──

module _ (s : List ℕ) where
  refuses : (d : Refusal) → reading s ≡ refused (cause_no d.cause) d.place → Refuses s (cause_no d.cause) d.place
  refuses d = (refuses_iff s (cause_no d.cause) d.place).0

  module _ (a b : ℕ) where
    -- what is computed is said
    pub says_refused : {d : Refusal} → reading s ≡ refused (cause_no d.cause) d.place → SaysLeads s a b (Err d)
    says_refused {d} e = on_refusal (refuses d e)

    pub says_read : {h : History} {notes : ℕ} {r : LedBy} → reading s ≡ read h notes → r ≡ said_of h a b → SaysLeads s a b (Ok r)
    unfolding said_of
    says_read {h} e i =
        let x = has_read e in
        let ok = lawful_history x in
        rw i
        (ifso (basic_cycle h)
        (λ t. rw (pick_on _ (ByTable (leads h a b)) (ByVectors (leads h a b)) t) (by_table x (from_cycle ok t) (basic_way_iff ok a b)))
        (λ t. rw (pick_off _ (ByTable (leads h a b)) (ByVectors (leads h a b)) t) (by_vectors x ((no_cycle_iff ok).0 t) (basic_way_iff ok a b))))

    -- .. whatever it is
    says_told : (r : LedAnswer) → told r ≡ said_read (reading s) a b → SaysLeads s a b r
    unfolding said_read
    says_told r e = go (reading s) refl r e
      where
        go : (q : Reading) → reading s ≡ q → (r : LedAnswer) → told r ≡ said_read q a b → SaysLeads s a b r
        go (refused n p) i (Err d) e = let z = declined_one e in says_refused (rw (z.0, z.1) i)
        go (refused n p) i (Ok l) e = let z : ◌≡◌ {A = ℕ} 0 1 = cc in absurd (omega arith)
        go (read h notes) i (Err d) e = let z : ◌≡◌ {A = ℕ} 0 1 = cc in absurd (omega arith)
        go (read h notes) i (Ok l) e = let z : l ≡ said_of h a b = cc in says_read i z

    -- and nothing else is
    says_is : {r : LedAnswer} → SaysLeads s a b r → told r ≡ said_read (reading s) a b
    unfolding said_read said_of
    says_is (on_refusal {d} x) = rw ((refuses_iff s (cause_no d.cause) d.place).1 x) refl
    says_is (by_vectors x f i) =
        let ok = lawful_history x in
        rw (read_has x) (ap (λ w. Ok (ByVectors w)) (right ok a b i) ∙ ap Ok (sym (pick_off _ _ _ ((no_cycle_iff ok).1 f))))
    says_is (by_table x d i) =
        let ok = lawful_history x in
        rw (read_has x) (ap (λ w. Ok (ByTable w)) (right ok a b i) ∙ ap Ok (sym (pick_on _ _ _ (to_cycle ok d))))

    pub says_iff : (r : LedAnswer) → (told r ≡ said_read (reading s) a b) ↔ SaysLeads s a b r
    says_iff r = (says_told r, says_is)

    -- so there is one such answer
    pub says_one : {r q : LedAnswer} → SaysLeads s a b r → SaysLeads s a b q → r ≡ q
    says_one {r} {q} x y = told_one r q (says_is x ∙ sym (says_is y))

  -- the same of an entry
  module _ (t a : ℕ) where
    pub tells_refused : {d : Refusal} → reading s ≡ refused (cause_no d.cause) d.place → TellsLatest s t a (Err d)
    tells_refused {d} e = on_refusal (refuses d e)

    pub tells-read : {h : History} {notes : ℕ} {r : Option ℕ} → reading s ≡ read h notes → r ≡ told_of h t a → TellsLatest s t a (Ok r)
    unfolding told_of
    tells-read {h} e i =
        let x = has_read e in
        let ok = lawful_history x in
        rw i
        (ifso (basic_cycle h) (λ c. rw (pick_on _ None (Some (entry_of h t a)) c) (on_cycle x (from_cycle ok c)))
        (λ c. rw (pick_off _ None (Some (entry_of h t a)) c) (on_latest x ((no_cycle_iff ok).0 c) (entry-is ok t a))))

    tells_told : (r : EntryAnswer) → told r ≡ told_read (reading s) t a → TellsLatest s t a r
    unfolding told_read
    tells_told r e = go (reading s) refl r e
      where
        go : (q : Reading) → reading s ≡ q → (r : EntryAnswer) → told r ≡ told_read q t a → TellsLatest s t a r
        go (refused n p) i (Err d) e = let z = declined_one e in tells_refused (rw (z.0, z.1) i)
        go (refused n p) i (Ok l) e = let z : ◌≡◌ {A = ℕ} 0 1 = cc in absurd (omega arith)
        go (read h notes) i (Err d) e = let z : ◌≡◌ {A = ℕ} 0 1 = cc in absurd (omega arith)
        go (read h notes) i (Ok l) e = let z : l ≡ told_of h t a = cc in tells-read i z

    tells_is : {r : EntryAnswer} → TellsLatest s t a r → told r ≡ told_read (reading s) t a
    unfolding told_read told_of
    tells_is (on_refusal {d} x) = rw ((refuses_iff s (cause_no d.cause) d.place).1 x) refl
    tells_is (on_cycle x d) = rw (read_has x) (ap Ok (sym (pick_on _ _ _ (to_cycle (lawful_history x) d))))
    tells_is (on_latest x f e) =
        let ok = lawful_history x in
        rw (read_has x) (ap (λ n. Ok (Some n)) (entry_one ok e (entry-is ok t a)) ∙ ap Ok (sym (pick_off _ _ _ ((no_cycle_iff ok).1 f))))

    pub tells_iff : (r : EntryAnswer) → (told r ≡ told_read (reading s) t a) ↔ TellsLatest s t a r
    tells_iff r = (tells_told r, tells_is)

    pub tells_one : {r q : EntryAnswer} → TellsLatest s t a r → TellsLatest s t a q → r ≡ q
    tells_one {r} {q} x y = told_one r q (tells_is x ∙ sym (tells_is y))
