-- Document 02's names in place of numbers as conditions in its own words, apart from the functions that compute. The theorems say that the two agree.
use Rattle.std.specs.Prelude.{ℕ, ◌+◌, ◌<◌, ◌≤◌, ◌≡◌, List, [], ◌⊎◌, length, get_or, Option, None, Some, Ok, Err}
use Rattle.rules.specs.Numbers.{le, part}
use Rattle.names_rules.specs.Names.{FileDeclined, file_declined, FilesCheck, stretch}
use Rattle.names_rules.specs.declared.NamesFile.TheVariants.{Own, Shared}
use Rattle.names_rules.specs.declared.NamePlace.{NamePlace}

-- ── a record ──

-- of the file s, at the offset `at`
module _ (s : List ℕ) (at : ℕ) where
  -- "records with our framing: length .., kind .., key (4 bytes)"
  abbrev pub name_length : ℕ
  name_length = le 2 s at

  abbrev pub name_kind : ℕ
  name_kind = le 2 s (at + 2)

  abbrev pub name_key : ℕ
  name_key = le 4 s (at + 4)

  -- the byte behind the record; its name is what stands from at + 8 to there
  abbrev pub name_end : ℕ
  name_end = at + 2 + name_length

  -- "length (7 to 46)", and no byte is missing
  pub record WholeName : Type 0 where
    pub least : 7 ≤ name_length
    pub most : name_length ≤ 46
    pub within : name_end ≤ length s

  -- "bytes of name from 32 to 126"
  abbrev pub PlainName : Type 0
  PlainName = (i : ℕ) → at + 8 ≤ i → i < name_end → (32 ≤ get_or s i 0) × (get_or s i 0 ≤ 126)

  -- "another byte in a name"
  pub record OtherByte : Type 0 where
    pub byte : ℕ
    pub from : at + 8 ≤ byte
    pub to : byte < name_end
    pub other : (get_or s byte 0 < 32) ⊎ (126 < get_or s byte 0)

  -- a record as it should be, where low is the last key plus one, or 0: "keys ascend strictly"
  pub record SoundName (low : ℕ) : Type 0 where
    pub whole : WholeName
    pub is_name : name_kind ≡ 32
    pub plain : PlainName
    pub ascends : low ≤ name_key

  -- "per record 3 for the length field, 4 for another length, 3 for missing bytes, 6, 8 for another byte in a name, 18 for keys not ascending"
  pub data Faulty (low : ℕ) : ℕ → Type 0 where
    no_length : length s < at + 2 → Faulty low 3
    other_length : at + 2 ≤ length s → (name_length < 7) ⊎ (46 < name_length) → Faulty low 4
    missing : at + 2 ≤ length s → 7 ≤ name_length → name_length ≤ 46 → length s < name_end → Faulty low 3
    other_kind : WholeName → (name_kind ≡ 32 → ⊥) → Faulty low 6
    other_byte : WholeName → name_kind ≡ 32 → OtherByte → Faulty low 8
    not_ascending : WholeName → name_kind ≡ 32 → PlainName → name_key < low → Faulty low 18

-- ── a file ──

-- the records before `at` are as they should be, and low is the last key plus one, or 0
pub data SoundTo (s : List ℕ) : ℕ → ℕ → Type 0 where
  front : SoundTo s 0 0
  past : {at low : ℕ} → SoundTo s at low → at < length s → SoundName s at low → SoundTo s (name_end s at) (name_key s at + 1)

-- "per file first 2, as in 01"; "place the record's offset"
pub data NamesRefused (s : List ℕ) : ℕ → ℕ → Type 0 where
  too_long : 32768 < length s → NamesRefused s 2 32768
  faulty : {at low n : ℕ} → length s ≤ 32768 → SoundTo s at low → at < length s → Faulty s at low n → NamesRefused s n at

-- every record is as it should be
pub record NamesLawful (s : List ℕ) : Type 0 where
  pub short : length s ≤ 32768
  pub low : ℕ
  pub ends : SoundTo s (length s) low

-- "the stretch of the .. file with that name": from a to before e
pub record Named (s : List ℕ) (k a e : ℕ) : Type 0 where
  pub at : ℕ
  pub low : ℕ
  pub before : SoundTo s at low
  pub there : at < length s
  pub has : name_key s at ≡ k
  pub from : a ≡ at + 8
  pub to : e ≡ name_end s at

-- "failing that"
abbrev pub Unnamed : List ℕ → ℕ → Type 0
Unnamed s k = (a e : ℕ) → Named s k a e → ⊥

-- ── two files ──

-- "own file first"
pub data FilesSay (own shared : List ℕ) : FilesCheck → Type 0 where
  own_refused : {n p : ℕ} → NamesRefused own n p → FilesSay own shared (Err (file_declined Own n p))
  shared_refused : {n p : ℕ} → NamesLawful own → NamesRefused shared n p → FilesSay own shared (Err (file_declined Shared n p))
  both_lawful : NamesLawful own → NamesLawful shared → FilesSay own shared (Ok tt)

-- "The answer is the stretch of the own file with that name, failing that the shared file's, failing that an empty one, as on refusal"
pub data NameAnswer (own shared : List ℕ) (k : ℕ) : Option NamePlace → Type 0 where
  on_refusal : {d : FileDeclined} → FilesSay own shared (Err d) → NameAnswer own shared k None
  in_own : {a e : ℕ} → NamesLawful own → NamesLawful shared → Named own k a e → NameAnswer own shared k (Some (stretch Own a e))
  in_shared : {a e : ℕ} → NamesLawful own → NamesLawful shared → Unnamed own k → Named shared k a e → NameAnswer own shared k (Some (stretch Shared a e))
  in_neither : NamesLawful own → NamesLawful shared → Unnamed own k → Unnamed shared k → NameAnswer own shared k None

-- the bytes l at w are handed back for the key k, where the first bytes of the two files are at p and q: each is a block of memory, and how far into it. They
-- are the stretch itself and no copy; an empty one is the own file's front
pub data HandsBack (own shared : List ℕ) (p q : ℕ × ℕ) (k : ℕ) (l : List ℕ) (w : ℕ × ℕ) : Type 0 where
  of_own : {a e : ℕ} → NameAnswer own shared k (Some (stretch Own a e)) → l ≡ part a e own → w ≡ (p.0, a + p.1) → HandsBack own shared p q k l w
  of_shared : {a e : ℕ} → NameAnswer own shared k (Some (stretch Shared a e)) → l ≡ part a e shared → w ≡ (q.0, a + q.1) → HandsBack own shared p q k l w
  of_none : NameAnswer own shared k None → l ≡ [] → w ≡ p → HandsBack own shared p q k l w
