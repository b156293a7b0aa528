-- Request Ten in the document's own words, with no mention of how any of it is computed: o is the order that is claimed.
use Rattle.std.specs.Prelude.{ℕ, ◌<◌, ◌≤◌, ◌≡◌, List, ◌⊎◌, length, get_or}
use Rattle.theory.specs.Order.{place}
use Rattle.rules.specs.History.{History}
use Rattle.demand1.specs.Rows.{Refuses, HasHistory}
use Rattle.demand2.specs.Kinds.{AllClean}
use Rattle.demand2.specs.Axiom.{Member, Lists, StandsBefore, Shows}
use Rattle.demand3.specs.Forced.{IsForced}
use Rattle.demand3.specs.Lists.{Finding}
use Rattle.claims_rules.specs.Claims.{Reply, holds, no_read, no_members, no_pair, declined}

-- "the first unclean read's operation number"
pub record FirstUnclean (h : History) (i : ℕ) : Type 0 where
  pub unclean : Finding h i
  pub first : (j : ℕ) → j < i → Finding h j → ⊥

-- "wrong membership or 0 not first"
pub data WrongMembers (h : History) (o : List ℕ) : Type 0 where
  -- a transaction that counts as committed is missing
  missing : {a : ℕ} → Member h a → length o ≤ place a o → WrongMembers h o
  -- one that does not count, or does not exist, stands in it
  stranger : {i : ℕ} → i < length o → (Member h (get_or o i 0) → ⊥) → WrongMembers h o
  -- one stands in it twice
  twice : {i j : ℕ} → i < j → j < length o → get_or o i 0 ≡ get_or o j 0 → WrongMembers h o
  -- another stands before 0
  not_first : 0 < place 0 o → WrongMembers h o

-- "the forced pair standing the wrong way round": its second stands before its first
pub record Backwards (h : History) (level : ℕ) (o : List ℕ) (a b : ℕ) : Type 0 where
  pub forced : IsForced h level a b
  pub turned : StandsBefore o b a

-- "that is least by first and then second"
pub record LeastBackwards (h : History) (level : ℕ) (o : List ℕ) (a b : ℕ) : Type 0 where
  pub is : Backwards h level o a b
  pub least : (c d : ℕ) → (c < a) ⊎ ((c ≡ a) × (d < b)) → Backwards h level o c d → ⊥

-- "it has every committed transaction once, 0 first, contains all forced pairs and all reads are clean"
pub record RightOrder (h : History) (level : ℕ) (o : List ℕ) : Type 0 where
  pub clean : AllClean h
  pub members : Lists h o
  pub pairs : (a b : ℕ) → IsForced h level a b → StandsBefore o a b

-- what is said of a claim about a trace that was read: "A no names the first reason that holds"
pub data ClaimSays (h : History) (level : ℕ) (o : List ℕ) : Reply → Type 0 where
  -- all reads are clean, and the claim is a commit order of the level by the published axioms
  right : AllClean h → Shows h level o → ClaimSays h level o holds
  wrong_read : {i : ℕ} → FirstUnclean h i → ClaimSays h level o (no_read i)
  wrong_members : AllClean h → WrongMembers h o → ClaimSays h level o no_members
  wrong_pair : {a b : ℕ} → AllClean h → Lists h o → LeastBackwards h level o a b → ClaimSays h level o (no_pair a b)

-- .. about any bytes: "Refusals: 1 to 11."
pub data Claims (s : List ℕ) (level : ℕ) (o : List ℕ) : Reply → Type 0 where
  no_level : ((1 ≤ level) × (level ≤ 3) → ⊥) → Claims s level o (declined 1 0)
  reading_refused : {n p : ℕ} → 1 ≤ level → level ≤ 3 → Refuses s n p → Claims s level o (declined n p)
  of_history : {h : History} {x : Reply} → 1 ≤ level → level ≤ 3 → HasHistory s h → ClaimSays h level o x → Claims s level o x

-- a yes whole, by the published axioms: the trace is read, its reads are clean, and the claim is a commit order of the level
pub record RightClaim (s : List ℕ) (level : ℕ) (o : List ℕ) : Type 0 where
  pub low : 1 ≤ level
  pub high : level ≤ 3
  pub history : History
  pub reads : HasHistory s history
  pub clean : AllClean history
  pub shows : Shows history level o

-- .. and in the document's words
pub record RightInWords (s : List ℕ) (level : ℕ) (o : List ℕ) : Type 0 where
  pub low : 1 ≤ level
  pub high : level ≤ 3
  pub history : History
  pub reads : HasHistory s history
  pub order : RightOrder history level o

-- a no: one of the three reasons is named
pub data IsNo : Reply → Type 0 where
  for_read : {i : ℕ} → IsNo (no_read i)
  for_members : IsNo no_members
  for_pair : {a b : ℕ} → IsNo (no_pair a b)
