-- Document 02, "Names in place of numbers": "A names file holds records with our framing: length (7 to 46), kind 32, key (4 bytes), 1 to 40 bytes of name from
-- 32 to 126; keys ascend strictly; no serials, no end record."
use Rattle.std.specs.Prelude.{ℕ, zero, suc, ◌+◌, ◌≤◌, ◌≡◌, Bool, not, List, [], ◌∷◌, length, get_or, ltb, eqb, Option, None, Some, Result, Ok, Err}
use Rattle.base.specs.Base.{◌or◌, pick, some, Row, row, first_fit}
use Rattle.rules.specs.Numbers.{le, part, over}
use Rattle.rules.specs.Records.{len_at, kind_at, next_at}
use Rattle.rules.specs.Refusals.{cause_no, Declined, declined}
use Rattle.rules.specs.declared.Refusal.{Refusal}
use Rattle.names_rules.specs.declared.NamesFile.{NamesFile}
use Rattle.names_rules.specs.declared.NamesFile.TheVariants.{Own, Shared}
use Rattle.names_rules.specs.declared.FileRefusal.{FileRefusal}
use Rattle.names_rules.specs.declared.NamePlace.{NamePlace}

-- ── one record ──

-- "key (4 bytes), 1 to 40 bytes of name": the key of the record at `at`, whose name is the bytes from at + 8 to before the next record
abbrev pub key_at : List ℕ → ℕ → ℕ
key_at s at = le 4 s (at + 4)

-- "another byte in a name" than one "from 32 to 126"
unfoldable pub is_odd : List ℕ → ℕ → Bool
is_odd s i = ltb (get_or s i 0) 32 or ltb 126 (get_or s i 0)

-- "per record 3 for the length field, 4 for another length, 3 for missing bytes, 6, 8 for another byte in a name, 18 for keys not ascending": low is the least
-- key that may come, which is the last one plus one
unfoldable pub name_rows : List ℕ → ℕ → ℕ → List Row
name_rows s at low =
    row (ltb (length s) (at + 2)) 3
    ∷ row (ltb (len_at s at) 7 or ltb 46 (len_at s at)) 4
    ∷ row (ltb (length s) (next_at s at)) 3
    ∷ row (not (eqb (kind_at s at) 32)) 6
    ∷ row (some (at + 8) (next_at s at) (is_odd s)) 8
    ∷ row (ltb (key_at s at) low) 18
    ∷ []

-- the number of the first row that refuses the record, 0 where none does
unfoldable pub name_no : List ℕ → ℕ → ℕ → ℕ
name_no s at low = first_fit (name_rows s at low)

-- ── one file ──

-- what comes of checking it: it is lawful, or it is refused, in the document's numbers
abbrev pub FileCheck : Type 0
FileCheck = Result Unit Declined

-- the records from `at` on; "place the record's offset"
unfoldable pub check_from : ℕ → List ℕ → ℕ → ℕ → FileCheck
check_from zero s at low = Ok tt
check_from (suc f) s at low =
    pick (ltb at (length s))
    (pick (ltb 0 (name_no s at low)) (Err (declined (name_no s at low) at)) (check_from f s (next_at s at) (key_at s at + 1)))
    (Ok tt)

-- "per file first 2, as in 01"
unfoldable pub checked : List ℕ → FileCheck
checked s = pick (ltb 32768 (length s)) (Err (declined 2 32768)) (check_from (length s) s 0 0)

-- the offsets of the records from `at` on
unfoldable pub offsets_from : ℕ → List ℕ → ℕ → List ℕ
offsets_from zero s at = []
offsets_from (suc f) s at = pick (ltb at (length s)) (at ∷ offsets_from f s (next_at s at)) []

-- .. of all records, in order
unfoldable pub offsets : List ℕ → List ℕ
offsets s = offsets_from (length s) s 0

-- the first of some offsets whose record has the key, else the file's length
unfoldable pub with_key : List ℕ → ℕ → List ℕ → ℕ
with_key s key [] = length s
with_key s key (a ∷ rest) = pick (eqb (key_at s a) key) a (with_key s key rest)

-- .. of the whole file
unfoldable pub record_with : List ℕ → ℕ → ℕ
record_with s key = with_key s key (offsets s)

-- an index of a lawful file: its records' offsets, in order
pub record IndexOf (s at : List ℕ) : Type 0 where
  pub lawful : checked s ≡ Ok tt
  pub is : at ≡ offsets s

-- .. written over the front of o, which made b of it: there are r, and never more than 3,640
pub record Indexes (s o b : List ℕ) (r : ℕ) : Type 0 where
  pub count : r ≡ length (offsets s)
  pub most : r ≤ 3640
  pub is : b ≡ over (offsets s) o

-- ── two files ──

-- what stands for one of the two
abbrev pub of_two : {A : Type 0} → A → A → NamesFile → A
of_two x y Own = x
of_two x y Shared = y

-- a refusal of one of them, in the document's numbers
pub record FileDeclined : Type 0 where
  pub file : NamesFile
  pub no : ℕ
  pub place : ℕ

abbrev pub file_declined : NamesFile → ℕ → ℕ → FileDeclined
file_declined f n p = record { file = f; no = n; place = p }

-- what comes of checking both: both are lawful, or one is refused
abbrev pub FilesCheck : Type 0
FilesCheck = Result Unit FileDeclined

-- .. as an answer tells it
abbrev pub files_told : Result Unit FileRefusal → FilesCheck
files_told (Ok x) = Ok x
files_told (Err r) = Err (file_declined r.file (cause_no r.refusal.cause) r.refusal.place)

-- what comes of checking one of them, as what comes of checking both
abbrev pub in_file : NamesFile → Result Unit Refusal → Result Unit FileRefusal
in_file f (Ok x) = Ok x
in_file f (Err r) = Err (record { file = f; refusal = r })

-- "own file first"
unfoldable pub refusal_of : FileCheck → FileCheck → FilesCheck
refusal_of (Err d) y = Err (file_declined Own d.no d.place)
refusal_of (Ok x) (Err d) = Err (file_declined Shared d.no d.place)
refusal_of (Ok x) (Ok y) = Ok tt

-- .. both being checked whole
abbrev pub refusal : List ℕ → List ℕ → FilesCheck
refusal own shared = refusal_of (checked own) (checked shared)

-- a stretch of one of them, from a to before e
abbrev pub stretch : NamesFile → ℕ → ℕ → NamePlace
stretch f a e = record { file = f; from = a; to = e }

-- "The answer is the stretch of the own file with that name, failing that the shared file's, failing that an empty one": of lawful files
unfoldable pub place_in : List ℕ → List ℕ → ℕ → Option NamePlace
place_in own shared key =
    pick (ltb (record_with own key) (length own)) (Some (stretch Own (record_with own key + 8) (next_at own (record_with own key))))
    (pick (ltb (record_with shared key) (length shared))
    (Some (stretch Shared (record_with shared key + 8) (next_at shared (record_with shared key)))) None)

-- ".. as on refusal"
unfoldable pub unless_refused : FilesCheck → Option NamePlace → Option NamePlace
unless_refused (Ok x) p = p
unless_refused (Err d) p = None

-- .. of any two files
abbrev pub place_of : List ℕ → List ℕ → ℕ → Option NamePlace
place_of own shared key = unless_refused (refusal own shared) (place_in own shared key)

-- ── the part that is handed back ──

-- its bytes
unfoldable pub bytes_at : List ℕ → List ℕ → Option NamePlace → List ℕ
bytes_at own shared None = []
bytes_at own shared (Some x) = part x.from x.to (of_two own shared x.file)

-- where in memory its first byte is, where those of the two files are at p and q: a block of memory, and how far into it. An empty one is the own file's front
unfoldable pub memory_at : ℕ × ℕ → ℕ × ℕ → Option NamePlace → ℕ × ℕ
memory_at p q None = p
memory_at p q (Some x) = ((of_two p q x.file).0, x.from + (of_two p q x.file).1)

-- a place that lies within its file
unfoldable pub PlaceWithin : List ℕ → List ℕ → Option NamePlace → Type 0
PlaceWithin own shared None = Unit
PlaceWithin own shared (Some x) = (x.from ≤ x.to) × (x.to ≤ length (of_two own shared x.file))
