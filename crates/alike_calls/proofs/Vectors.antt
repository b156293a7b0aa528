-- The calls for vectors on two traces: whatever meets what is promised of them, whoever answered it.
use Prim.Native.Nat.{ℕ}
use Rattle.std.specs.Prelude.{Ok}
use mathlib.Core.Path.{◌≡◌, refl, ap}
use mathlib.Core.List.{List}
use Rattle.rules.specs.History.{History, Tx}
use Rattle.rules.specs.Reading.{Reading}
use Rattle.demand1.specs.Lawful.{LawfulHistory}
use Rattle.renumbering.specs.Renumbering.{Renumbers}
use Rattle.renumbering.proofs.Numbers.{same_tx, same_size}
use Rattle.renumbering.proofs.Committed.{same-committed}
use Rattle.renumbering.proofs.Pairs.{same-basic, same-leads}
use Rattle.vectors_rules.specs.Vectors.{session_no, latest_of, vector_of, basic_cycle}
use Rattle.vectors_calls.specs.Calls.{SaysLeads, TellsLatest}
use Rattle.vectors_calls.specs.Answers.{said_of, said_read, entry_of, told_of, told_read}
use Rattle.vectors_calls.proofs.Calls.{says_iff, tells_iff}
use Rattle.rules.proofs.Refusals.{told_one}
use Rattle.two.specs.declared.Two.{Two}
use Rattle.vectors_calls.specs.Calls.{LedAnswer}
use Rattle.vectors_calls.specs.Calls.{EntryAnswer}
use Rattle.alike_calls.specs.Alike.{LedBoth, LatestBoth}
use Rattle.alike_calls.proofs.Alike.{OfHistory, same-moved, same_noted}

-- ── histories that differ by the numbers of their operations ──

module _ {to back : ℕ → ℕ} {h g : History} (ok : LawfulHistory h) (r : Renumbers to back h g) where
  same_sessions : session_no g ≡ session_no h
  unfolding session_no
  same_sessions = ap (λ (x : ℕ → Tx). λ (t : ℕ). (x t).session) (same_tx r)

  -- basic pairs are the same, so they form a cycle in both or in neither, and every vector is the same
  pub same_cycle : basic_cycle g ≡ basic_cycle h
  unfolding basic_cycle
  same_cycle = rw (same_size r, same-basic ok r)

  pub same_vectors : vector_of g ≡ vector_of h
  unfolding vector_of latest_of
  same_vectors = rw (same-committed ok r, same_sessions, same_size r, same-basic ok r)

  -- so is what is computed of either question
  same-said : (a b : ℕ) → said_of g a b ≡ said_of h a b
  unfolding said_of
  same-said a b = rw (same_cycle, same-leads ok r)

  same-told : (t a : ℕ) → told_of g t a ≡ told_of h t a
  unfolding told_of entry_of
  same-told t a = rw (same_cycle, same-committed ok r, same_sessions, same_vectors)

-- ── traces ──

-- either answer hangs on the history alone
said_of_lem : (a b : ℕ) → OfHistory (λ (x : Reading). said_read x a b)
unfolding said_read
said_of_lem a b = record { any_notes = λ h n m. refl; any_numbers = λ ok r n m. ap Ok (same-said ok r a b) }

told_of_lem : (t a : ℕ) → OfHistory (λ (x : Reading). told_read x t a)
unfolding told_read
told_of_lem t a = record { any_notes = λ h n m. refl; any_numbers = λ ok r n m. ap Ok (same-told ok r t a) }

-- so any two answers to traces that are alike are the same
pub led_both : (s t : List ℕ) (a b : ℕ) (r : Two LedAnswer) → SaysLeads s a b r.one → SaysLeads t a b r.other → LedBoth s t a b r
led_both s t a b r x y =
    let e = (says_iff s a b r.one).1 x in
    let f = (says_iff t a b r.other).1 y in
    record {
      one = x;
      other = y;
      was_moved = λ second m. told_one _ _ (same-moved (said_of_lem a b) e f m);
      but_for_notes = λ n. told_one _ _ (same_noted (said_of_lem a b) e f n);
    }

pub latest_both : (s t : List ℕ) (x a : ℕ) (r : Two EntryAnswer) → TellsLatest s x a r.one → TellsLatest t x a r.other → LatestBoth s t x a r
latest_both s t x a r u v =
    let e = (tells_iff s x a r.one).1 u in
    let f = (tells_iff t x a r.other).1 v in
    record {
      one = u;
      other = v;
      was_moved = λ second m. told_one _ _ (same-moved (told_of_lem x a) e f m);
      but_for_notes = λ n. told_one _ _ (same_noted (told_of_lem x a) e f n);
    }
