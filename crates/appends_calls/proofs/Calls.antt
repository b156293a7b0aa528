-- By the contracts of the calls alone: what is promised of the lists of a trace, that nothing else is, and what the judge refuses of the same trace.
use Prim.Native.Nat.{ℕ, ◌≤◌}
use mathlib.Core.Path.{◌≡◌, refl, ap, sym, ◌∙◌}
use mathlib.Core.List.{List}
use native.Mathlib.Omega.{arith}
use Rattle.rules.specs.History.{History}
use Rattle.rules.specs.Reading.{Reading, refused, read, reading}
use Rattle.std.specs.Prelude.{Ok, Err}
use Rattle.rules.specs.Outcome.{Answer, Outcome, outcome, declining, reported, judged_read, judged}
use Rattle.rules.specs.Refusals.{cause_no}
use Rattle.rules.specs.declared.Cause.{Cause}
use Rattle.rules.specs.declared.Cause.TheVariants.{NoLevel, FindingsRoom, PairsRoom, OrderRoom}
use Rattle.rules.proofs.Refusals.{cause_one, refusal_one}
use Rattle.rules.proofs.Outcome.{reported_one, judged_level, judged_refused}
use Rattle.demand1.specs.Rows.{Refuses}
use Rattle.demand1.proofs.Lawful.{lawful_history}
use Rattle.demand1.proofs.Readings.{refuses_iff, has_read}
use Rattle.demands.specs.Declined.{Declines, no_level, reading_refused as declines-reading, findings_short, pairs_short, order_short}
use Rattle.demands.proofs.Meets.{meets}
use Rattle.appends_rules.specs.Appends.{lists_in}
use Rattle.appends_rules.specs.ListKinds.{is_clean_list}
use Rattle.appends_rules.specs.ListOutcome.{ListReport, lists_refused, lists_told, ListOutcome, list_outcome, lists_of_read, judged_lists}
use Rattle.appends_laws.specs.ListBytes.{ListsSay, short_12, short_13, says, ListsJudge, reading_refused as judge-refused, of_history as judge-history}
use Rattle.appends_laws.proofs.ListFits.{test-is_cleanness}
use Rattle.appends_laws.proofs.ListBytes.{lists_say, lists_judge_one}
use Rattle.appends.specs.Answering.{ListAnswer, list_reported}
use Rattle.appends.specs.declared.ListCounts.{ListCounts}
use Rattle.appends_calls.specs.Calls.{ListsPromised, reading_refused, of_history, JudgedAndListed}

-- ── answers and their reports ──

-- which of the two a report is, and its numbers
abbrev report_case : ListReport → ℕ
report_case (lists_refused n p) = 0
report_case (lists_told f w b) = 1

abbrev first_of : ListReport → ℕ
first_of (lists_refused n p) = n
first_of (lists_told f w b) = f

abbrev second_of : ListReport → ℕ
second_of (lists_refused n p) = p
second_of (lists_told f w b) = w

abbrev third_of : ListReport → ℕ
third_of (lists_refused n p) = 0
third_of (lists_told f w b) = b

-- answers that report the same are the same
counts_one : {n m : ListCounts} → n.findings ≡ m.findings → n.writes ≡ m.writes → n.both ≡ m.both → n ≡ m
counts_one a b c = rw (a, b, c)

pub list_reported_one : (r q : ListAnswer) → list_reported r ≡ list_reported q → r ≡ q
unfolding list_reported
list_reported_one (Err r) (Err q) e = ap Err (refusal_one (ap first_of e) (ap second_of e))
list_reported_one (Err r) (Ok m) e = absurd (omega (arith, ap report_case e))
list_reported_one (Ok n) (Err q) e = absurd (omega (arith, ap report_case e))
list_reported_one (Ok n) (Ok m) e = ap Ok (counts_one (ap first_of e) (ap second_of e) (ap third_of e))

-- ── one trace ──

module _ (s fs ps : List ℕ) where
  promised_of : (r : Reading) → reading s ≡ r → ListsPromised s fs ps (lists_of_read s r fs ps)
  unfolding lists_of_read
  promised_of (refused n p) e = reading_refused ((refuses_iff s n p).0 e)
  promised_of (read h n) e =
      let ok = lawful_history (has_read e) in
      let c = test-is_cleanness ok (lists_in s h) in
      of_history {c = is_clean_list h (lists_in s h)} (has_read e) c (lists_say ok (lists_in s h) c fs ps)

  -- the outcome that the definition gives is promised
  pub lists_promised : ListsPromised s fs ps (judged_lists s fs ps)
  unfolding judged_lists
  lists_promised = promised_of (reading s) refl

  -- what is promised is what document 02 says, with whatever notion of clean
  pub promised_judge : {o : ListOutcome} → ListsPromised s fs ps o → ListsJudge s fs ps o
  promised_judge (reading_refused r) = judge-refused r
  promised_judge (of_history r c x) = judge-history r c x

  pub promised_is : {o : ListOutcome} → ListsPromised s fs ps o → o ≡ judged_lists s fs ps
  promised_is x = lists_judge_one s fs ps (promised_judge x)

  -- .. and the other way about, so a contract loses nothing by its test
  pub judge_promised : {o : ListOutcome} → ListsJudge s fs ps o → ListsPromised s fs ps o
  judge_promised x = rw (lists_judge_one s fs ps x) lists_promised

  -- one outcome
  pub promised_one : {o q : ListOutcome} → ListsPromised s fs ps o → ListsPromised s fs ps q → o ≡ q
  promised_one x y = promised_is x ∙ sym (promised_is y)

  -- by the contract of the call
  pub promised_by : (r : ListAnswer) {F P : List ℕ} → list_outcome (list_reported r) F P ≡ judged_lists s fs ps → ListsPromised s fs ps (list_outcome (list_reported r) F P)
  promised_by r e = rw e lists_promised

-- ── the judge and the call on lists ──

module _ (s : List ℕ) {n p : ℕ} (x : Refuses s n p) where
  -- what reading refuses the judge refuses
  judge_refuses : (level : ℕ) (fs ps os : List ℕ) → 1 ≤ level → level ≤ 3 → (a : Answer) {F P O : List ℕ}
      → outcome (reported a) F P O ≡ judged s level fs ps os → reported a ≡ declining n p
  judge_refuses level fs ps os l m a j =
      ap (λ (o : Outcome). o.report)
      (j ∙ judged_level s level fs ps os l m ∙ ap (λ (q : Reading). judged_read q level fs ps os) ((refuses_iff s n p).1 x) ∙ judged_refused level fs ps os n p)

  -- .. and so does the call on lists
  lists_refuse : (xs ys : List ℕ) (a : ListAnswer) {X Y : List ℕ} → list_outcome (list_reported a) X Y ≡ judged_lists s xs ys
      → list_reported a ≡ lists_refused n p
  lists_refuse xs ys a e = ap (λ (o : ListOutcome). o.report) (e ∙ sym (promised_is s xs ys (reading_refused x)))

-- what the call on lists refuses, but for its buffers, is what reading refuses
said_refused : {h : History} {l : ℕ → List ℕ} {C : ℕ → Type 0} {xs ys : List ℕ} {o : ListOutcome} → ListsSay h l C xs ys o → {n p : ℕ}
    → o.report ≡ lists_refused n p → (n ≡ 12 → ⊥) → (n ≡ 13 → ⊥) → ⊥
said_refused (short_12 x l) e a b = a (sym (ap first_of e))
said_refused (short_13 x y z l m) e a b = b (sym (ap first_of e))
said_refused (says x y z l m) e a b = omega (arith, ap report_case e)

lists_reading : {s xs ys : List ℕ} {o : ListOutcome} → ListsPromised s xs ys o → {n p : ℕ} → o.report ≡ lists_refused n p → (n ≡ 12 → ⊥) → (n ≡ 13 → ⊥)
    → Refuses s n p
lists_reading (reading_refused r) e a b = rw (← ap first_of e, ← ap second_of e) r
lists_reading (of_history r c x) e a b = absurd (said_refused x e a b)

-- .. and so is what the judge refuses, but for its buffers and the level
judge_reading : {s : List ℕ} {level f p o n at : ℕ} → Declines s level f p o n at → (n ≡ 1 → ⊥) → (n ≡ 12 → ⊥) → (n ≡ 13 → ⊥) → (n ≡ 14 → ⊥) → Refuses s n at
judge_reading (no_level d) a b c e = absurd (a refl)
judge_reading (declines-reading l m r) a b c e = r
judge_reading (findings_short l m r x y z) a b c e = absurd (b refl)
judge_reading (pairs_short l m r x y z u v) a b c e = absurd (c refl)
judge_reading (order_short l m r x y z u) a b c e = absurd (e refl)

-- another cause has another number
other_no : {c : Cause} (d : Cause) → (c ≡ d → ⊥) → cause_no c ≡ cause_no d → ⊥
other_no d x e = x (cause_one e)

module _ (s : List ℕ) (level : ℕ) (fs ps os xs ys : List ℕ) {F P O X Y : List ℕ} where
  pub judged-and-listed : (a : Answer) (c : ListAnswer) → outcome (reported a) F P O ≡ judged s level fs ps os
      → list_outcome (list_reported c) X Y ≡ judged_lists s xs ys → JudgedAndListed s level (record { judged = a; listed = c }) fs ps os xs ys F P O X Y
  unfolding reported list_reported
  judged-and-listed a c j e =
      let demands = meets s level fs ps os a j in
      let promised = promised_by s xs ys c e in
      record {
        judged = demands;
        listed = promised;
        refused_alike = λ l m x. (judge_refuses s x level fs ps os l m a j, lists_refuse s x xs ys c e);
        on_list_refusal =
            λ l m {d} q u v.
            let x = lists_reading promised (ap list_reported q) (other_no FindingsRoom u) (other_no PairsRoom v) in
            reported_one a (Err d) (judge_refuses s x level fs ps os l m a j);
        on_judge_refusal =
            λ {d} q t u v w.
            let y = (demands.first.refused (cause_no d.cause) d.place).0 (ap reported q) in
            let x = judge_reading y (other_no NoLevel t) (other_no FindingsRoom u) (other_no PairsRoom v) (other_no OrderRoom w) in
            list_reported_one c (Err d) (lists_refuse s x xs ys c e);
      }
