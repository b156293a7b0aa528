-- Document 02, request One: a call "fills a lent buffer and answers the length", or it refuses.
use Rattle.std.specs.Prelude.{ℕ, ◌≤◌, ◌≡◌, Bool, true, false, List, length, ltb, Result, Ok, Err}
use Rattle.base.specs.Base.{pick}
use Rattle.rules.specs.Numbers.{over}
use Rattle.rules.specs.Refusals.{cause_no}
use Rattle.rules.specs.declared.Refusal.{Refusal}

-- an answer in the documents' numbers: whether it is a refusal; its number and place, 0 and 0 where it is none; the length, 0 on refusal
pub record Said : Type 0 where
  pub is_refused : Bool
  pub no : ℕ
  pub place : ℕ
  pub length : ℕ

abbrev pub refusing : ℕ → ℕ → Said
refusing n p = record { is_refused = true; no = n; place = p; length = 0 }

abbrev pub answering : ℕ → Said
answering n = record { is_refused = false; no = 0; place = 0; length = n }

-- the answer: the length of what was put at the buffer's front, or a refusal
abbrev pub Filled : Type 0
Filled = Result ℕ Refusal

-- what each case of it says
unfoldable pub said : Filled → Said
said (Err r) = refusing (cause_no r.cause) r.place
said (Ok n) = answering n

-- what is to be put into the buffer, or the refusal that comes before
pub data Work : Type 0 where
  refusal : ℕ → ℕ → Work
  content : List ℕ → Work

-- the answer, and what the buffer then holds
pub record Fill : Type 0 where
  pub answer : Said
  pub buffer : List ℕ

abbrev pub fill_of : Said → List ℕ → Fill
fill_of a b = record { answer = a; buffer = b }

-- the answer r, which made b of the buffer, is x; the length that it says lies within the buffer
pub record Gives (r : Filled) (b : List ℕ) (x : Fill) : Type 0 where
  pub is : fill_of (said r) b ≡ x
  pub within : (said r).length ≤ length b

-- "Refusals: 16, output buffer too short, place the bytes needed, after all others." A refusal changes no byte, and bytes behind what is written do not change
unfoldable pub into : Work → List ℕ → Fill
into (refusal n p) out = fill_of (refusing n p) out
into (content l) out =
    pick (ltb (length out) (length l)) (fill_of (refusing 16 (length l)) out) (fill_of (answering (length l)) (over l out))
