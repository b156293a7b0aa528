-- What whoever moves a trace has of moving it back, and of judging it before and after.
use Rattle.std.specs.Prelude.{ℕ, ◌≤◌, ◌≡◌, Bool, false, true, List, length, take}
use Rattle.rules.specs.Numbers.{over}
use Rattle.rules.specs.History.{History}
use Rattle.rules.specs.Records.{is_second}
use Rattle.demand1.specs.Rows.{serial, ReadInto, HasHistory}
use Rattle.demands.specs.Demands.{Demands}
use Rattle.writing.specs.Filling.{refusing, answering, said, Filled}
use Rattle.written.specs.Fills.{FilledWith}
use Rattle.renumbering.specs.Renumbering.{AnswersAlike}
use Rattle.moving.specs.Renumbering.{new_number}
use Rattle.moved.specs.Moved.{ComesOut, moved_length, MoveDeclines, Moves}
use Rattle.noteless.specs.Without.{WithoutNotes}
use Rattle.shelf.specs.declared.MovedJudged.{MovedJudged}

-- a trace s, moved to edition 2 and what came out of that to edition 1: of a buffer of edition 2 that held x and one that held o, the answer r and what they then
-- became (X and B)
pub record CameBack (s x o : List ℕ) (r : Filled) (X B : List ℕ) : Type 0 where
  -- a refusal of the first move is answered, and nothing written
  pub not_out : (n p : ℕ) → MoveDeclines true s (length x) n p → (said r ≡ refusing n p) × (X ≡ x) × (B ≡ o)
  -- else the second move is promised of what the first one put
  pub out : {b : List ℕ} → ComesOut true s b → length b ≤ length x → (X ≡ over b x) × Moves false b o r B
  -- "A note-free edition 1 trace comes back byte for byte", where both buffers have room
  pub own : (h : History) → is_second s ≡ false → ReadInto s h 0 → moved_length true h ≤ length x → length s ≤ length o → (said r ≡ answering (length s)) × (B ≡ over s o)
  -- .. and any other of edition 1 without its notes, its first serial kept and the others closed up
  pub without : (h : History) → is_second s ≡ false → HasHistory s h → moved_length true h ≤ length x → moved_length false h ≤ length o
      → (m : ℕ) × (said r ≡ answering m) × FilledWith (WithoutNotes (serial s 0) s) o B m

-- a trace s, moved to edition 2 or 1 in a buffer that held o, and judged before and after: with buffers that held fs, ps and os, and with a prime for what came
-- out, which is the first bytes of B; nothing, where the move was refused
pub record MovedAndJudged (second : Bool) (s o : List ℕ) (level : ℕ) (r : MovedJudged) (B fs ps os fs' ps' os' F P O F' P' O' : List ℕ) : Type 0 where
  pub moves : Moves second s o r.moved B
  pub judged_before : Demands s level fs ps os r.before F P O
  pub judged_after : Demands (take (said r.moved).length B) level fs' ps' os' r.after F' P' O'
  -- "Verdicts, orders and pairs stay equal; findings may differ only in operation numbers, so in their order"
  pub alike : fs ≡ fs' → ps ≡ ps' → os ≡ os' → (n : ℕ) → said r.moved ≡ answering n → (h : History) → HasHistory s h → (is_second s ≡ second → ⊥)
      → AnswersAlike (new_number h) r.before r.after F P O F' P' O'
  -- "A trace already in the wanted edition comes out unchanged": then nothing differs
  pub unchanged : fs ≡ fs' → ps ≡ ps' → os ≡ os' → (n : ℕ) → said r.moved ≡ answering n → is_second s ≡ second
      → (r.after ≡ r.before) × (F' ≡ F) × (P' ≡ P) × (O' ≡ O)
