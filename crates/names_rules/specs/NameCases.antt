-- Cases of names files, computed: each refusal with its place, each two neighbours in the order of checks broken at once, limits, and look-ups. The
-- statements are in proofs/.
use Rattle.std.specs.Prelude.{ℕ, ◌+◌, List, [], ◌∷◌, ◌++◌, length, replicate, Option, None, Some, Ok, Err}
use Rattle.rules.specs.Traces.{raw}
use Rattle.rules.specs.Refusals.{declined}
use Rattle.names_rules.specs.Names.{FileCheck, FilesCheck, checked, file_declined, refusal, stretch, place_of, bytes_at}
use Rattle.names_rules.specs.declared.NamesFile.TheVariants.{Own, Shared}
use Rattle.names_rules.specs.declared.NamePlace.{NamePlace}

-- the record of a key and its name
abbrev n : ℕ → List ℕ → List ℕ
n key name = raw (6 + length name) 32 key name

-- a name of one byte; one of k bytes
abbrev A : List ℕ
A = 65 ∷ []

abbrev long : ℕ → List ℕ
long k = replicate k 126

-- ── files ──

-- a file, and what comes of checking it
pub record File : Type 0 where
  pub bytes : List ℕ
  pub check : FileCheck

abbrev Good : FileCheck
Good = Ok tt

abbrev Bad : ℕ → ℕ → FileCheck
Bad n p = Err (declined n p)

abbrev file : List ℕ → FileCheck → File
file b c = record { bytes = b; check = c }

abbrev pub files : List File
files =
    -- lawful: no record; names of one and of forty bytes; the least and the greatest byte; key 0 first, the greatest key last
    file [] Good
    ∷ file (n 5 A) Good
    ∷ file (n 5 (long 40)) Good
    ∷ file (n 0 (32 ∷ 126 ∷ []) ++ n 1 A ++ n 4294967295 A) Good
    -- each row, at the first record or behind others
    ∷ file (7 ∷ []) (Bad 3 0)
    ∷ file (n 5 A ++ (7 ∷ [])) (Bad 3 9)
    ∷ file (n 5 []) (Bad 4 0)
    ∷ file (n 5 (long 41)) (Bad 4 0)
    ∷ file (raw 8 32 5 A) (Bad 3 0)
    ∷ file (n 4 A ++ raw 7 33 5 A) (Bad 6 9)
    ∷ file (n 4 A ++ raw 7 288 5 A) (Bad 6 9)
    ∷ file (n 5 (65 ∷ 31 ∷ [])) (Bad 8 0)
    ∷ file (n 5 (127 ∷ [])) (Bad 8 0)
    ∷ file (n 5 A ++ n 5 A) (Bad 18 9)
    ∷ file (n 4 A ++ n 6 A ++ n 5 A) (Bad 18 18)
    ∷ file (n 4294967295 A ++ n 0 A) (Bad 18 9)
    -- two neighbours at once: the length field before 4, 4 before missing bytes, these before 6, 6 before 8, 8 before 18
    ∷ file (0 ∷ []) (Bad 3 0)
    ∷ file (raw 47 32 5 A) (Bad 4 0)
    ∷ file (raw 8 33 5 A) (Bad 3 0)
    ∷ file (raw 7 33 5 (31 ∷ [])) (Bad 6 0)
    ∷ file (n 5 A ++ n 5 (127 ∷ [])) (Bad 8 9)
    -- the first record that is refused
    ∷ file (n 5 (127 ∷ []) ++ (7 ∷ [])) (Bad 8 0)
    ∷ []

abbrev pub file_found : File → File
file_found f = file f.bytes (checked f.bytes)

-- ── look-ups ──

-- two files and a key; where the name is, its bytes, and what is said of the two files
pub record Lookup : Type 0 where
  pub own : List ℕ
  pub shared : List ℕ
  pub key : ℕ
  pub place : Option NamePlace
  pub name : List ℕ
  pub says : FilesCheck

abbrev look : List ℕ → List ℕ → ℕ → Option NamePlace → List ℕ → FilesCheck → Lookup
look o s k p b r = record { own = o; shared = s; key = k; place = p; name = b; says = r }

-- two records; others, of which one has a key of theirs; three records
abbrev two : List ℕ
two = n 3 A ++ n 7 (66 ∷ 67 ∷ [])

abbrev other : List ℕ
other = n 7 (68 ∷ []) ++ n 9 (69 ∷ [])

abbrev pub three : List ℕ
three = n 2 A ++ n 4 (66 ∷ 67 ∷ []) ++ n 8 (68 ∷ [])

abbrev in_own : ℕ → ℕ → Option NamePlace
in_own a e = Some (stretch Own a e)

abbrev in_shared : ℕ → ℕ → Option NamePlace
in_shared a e = Some (stretch Shared a e)

abbrev pub lookups : List Lookup
lookups =
    look [] [] 3 None [] (Ok tt)
    ∷ look two other 3 (in_own 8 9) A (Ok tt)
    -- own hides shared
    ∷ look two other 7 (in_own 17 19) (66 ∷ 67 ∷ []) (Ok tt)
    ∷ look [] other 7 (in_shared 8 9) (68 ∷ []) (Ok tt)
    ∷ look two other 9 (in_shared 17 18) (69 ∷ []) (Ok tt)
    ∷ look two other 8 None [] (Ok tt)
    -- of three records the first, the middle and the last; before them, between them, behind them; the same in the shared file
    ∷ look three [] 2 (in_own 8 9) A (Ok tt)
    ∷ look three [] 4 (in_own 17 19) (66 ∷ 67 ∷ []) (Ok tt)
    ∷ look three [] 8 (in_own 27 28) (68 ∷ []) (Ok tt)
    ∷ look three [] 1 None [] (Ok tt)
    ∷ look three [] 3 None [] (Ok tt)
    ∷ look three [] 5 None [] (Ok tt)
    ∷ look three [] 9 None [] (Ok tt)
    ∷ look two three 4 (in_shared 17 19) (66 ∷ 67 ∷ []) (Ok tt)
    ∷ look two three 8 (in_shared 27 28) (68 ∷ []) (Ok tt)
    -- a refusal of either, and of both, own file first
    ∷ look two (7 ∷ []) 3 None [] (Err (file_declined Shared 3 0))
    ∷ look (n 3 A ++ n 3 A) other 7 None [] (Err (file_declined Own 18 9))
    ∷ look (n 3 A ++ n 3 A) (7 ∷ []) 3 None [] (Err (file_declined Own 18 9))
    ∷ []

abbrev pub look_found : Lookup → Lookup
look_found x =
    look x.own x.shared x.key (place_of x.own x.shared x.key) (bytes_at x.own x.shared (place_of x.own x.shared x.key))
    (refusal x.own x.shared)
