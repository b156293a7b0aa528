-- By what is promised of each call alone: two traces of which one is the other, moved, and two that differ only in their notes.
use Prim.Native.Nat.{ℕ}
use mathlib.Core.Path.{◌≡◌, ap, sym, ◌∙◌}
use mathlib.Core.Bool.{Bool}
use mathlib.Core.List.{List}
use Rattle.rules.specs.History.{History}
use Rattle.rules.specs.Reading.{Reading, read, reading}
use Rattle.rules.specs.Outcome.{Outcome, outcome, reported, judged}
use Rattle.rules.specs.Outcome.{Answer}
use Rattle.rules.proofs.Outcome.{reported_one}
use Rattle.demand1.specs.Lawful.{LawfulHistory}
use Rattle.demand1.proofs.Lawful.{lawful_history}
use Rattle.demand1.proofs.Readings.{reads_iff, read_has}
use Rattle.demands.specs.Demands.{Demands}
use Rattle.demands.proofs.Meets.{meets}
use Rattle.demands.proofs.One.{demands_judged}
use Rattle.renumbering.specs.Renumbering.{Renumbers}
use Rattle.noteless.specs.Without.{ButForNotes}
use Rattle.noteless.proofs.ButFor.{notes_reading, notes_judged}
use Rattle.moved.specs.Moved.{Moved}
use Rattle.moved.proofs.Alike.{moved_alike}
use Rattle.two.specs.declared.Two.{Two}
use Rattle.alike_calls.specs.Alike.{SameOutcome, JudgedBoth}

-- ── any call ──

-- what holds of any two readings whose histories differ by the numbers of operations, whatever the numbers of notes, holds of a trace and of what it was moved to
pub moved_readings : {s t : List ℕ} {second : Bool} → Moved second s t → (P : Reading → Reading → Type 0)
    → ((to back : ℕ → ℕ) (h g : History) → LawfulHistory h → Renumbers to back h g → (n k : ℕ) → P (read h n) (read g k)) → P (reading s) (reading t)
moved_readings {s} {t} m P any =
    rw (read_has m.reads, (reads_iff t m.moved_history 0).1 m.moved_reads)
    (any _ _ m.history m.moved_history (lawful_history m.reads) m.in_blocks.renumbers m.reads.notes 0)

-- f, which is made of a reading, hangs on its history alone: neither on the number of notes nor on the numbers of operations
pub record OfHistory {A : Type 0} (f : Reading → A) : Type 0 where
  pub any_notes : (h : History) (n m : ℕ) → f (read h n) ≡ f (read h m)
  pub any_numbers : {to back : ℕ → ℕ} {h g : History} → LawfulHistory h → Renumbers to back h g → (n m : ℕ) → f (read g n) ≡ f (read h m)

-- then answers r and q that are made so of traces that are alike are the same
module _ {s t : List ℕ} {A : Type 0} {f : Reading → A} (w : OfHistory f) {r q : A} (x : r ≡ f (reading s)) (y : q ≡ f (reading t)) where
  pub same-moved : {second : Bool} → Moved second s t → q ≡ r
  same-moved m = y ∙ moved_readings m (λ a b. f b ≡ f a) (λ to back h g ok d n k. w.any_numbers ok d k n) ∙ sym x

  pub same_noted : ButForNotes s t → q ≡ r
  same_noted n = y ∙ notes_reading n f w.any_notes ∙ sym x

-- ── the judge ──

-- any two answers that meet the demands, whoever gave them, are the same where only notes differ
pub notes_answers : {s t : List ℕ} → ButForNotes s t → (level : ℕ) (fs ps os : List ℕ) (r q : Answer) (F P O F' P' O' : List ℕ) → Demands s level fs ps os r F P O
    → Demands t level fs ps os q F' P' O' → SameOutcome r q F P O F' P' O'
notes_answers {s} {t} n level fs ps os r q F P O F' P' O' x y =
    let d : outcome (reported q) F' P' O' ≡ outcome (reported r) F P O =
    demands_judged t level fs ps os q F' P' O' y ∙ notes_judged n level fs ps os ∙ sym (demands_judged s level fs ps os r F P O x) in
    record {
      answer = reported_one q r (ap (λ (o : Outcome). o.report) d);
      findings = ap (λ (o : Outcome). o.findings) d;
      pairs = ap (λ (o : Outcome). o.pairs) d;
      order = ap (λ (o : Outcome). o.order) d;
    }

module _ (s t : List ℕ) (level : ℕ) (r : Two Answer) (fs ps os fs' ps' os' : List ℕ) {F P O F' P' O' : List ℕ} where
  pub judged_both : outcome (reported r.one) F P O ≡ judged s level fs ps os → outcome (reported r.other) F' P' O' ≡ judged t level fs' ps' os'
      → JudgedBoth s t level r fs ps os fs' ps' os' F P O F' P' O'
  judged_both a b =
      let x = meets s level fs ps os r.one a in
      let y = meets t level fs' ps' os' r.other b in
      let same : fs ≡ fs' → ps ≡ ps' → os ≡ os' → Demands t level fs ps os r.other F' P' O' = λ e f g. rw (e, f, g) y in
      record {
        one = x;
        other = y;
        was_moved = λ e f g second m. moved_alike m level fs ps os r.one r.other F P O F' P' O' x (same e f g);
        but_for_notes = λ e f g n. notes_answers n level fs ps os r.one r.other F P O F' P' O' x (same e f g);
      }
