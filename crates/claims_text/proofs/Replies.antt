-- The lines of answers: none is longer than 64 bytes, and what was put is the line of the answer that it was put for.
use Prim.Native.Nat.{ℕ, ◌^◌, ◌<◌, ◌≤◌}
use mathlib.Core.Path.{◌≡◌}
use mathlib.Core.List.{List, [], ◌∷◌}
use native.Mathlib.Omega.{arith}
use lib.ListN.{length, length-append}
use Rattle.text.specs.Lines.{text, field, fields, line, refused_line}
use Rattle.text.proofs.Lines.{refused_length}
use Rattle.show.specs.Laid.{Put, Short}
use Rattle.claims_rules.specs.Claims.{reply}
use Rattle.claims_rules.specs.Lines.{reply_line}
use Rattle.claims_rules.specs.Claims.{ClaimAnswer}
use Rattle.claims_rules.specs.declared.ClaimRuling.TheVariants.{Yes, NoRead, NoMembers, NoPair}
use Rattle.std.specs.Prelude.{Ok, Err}
use Rattle.rules.specs.Refusals.{cause_no}
use Rattle.rules.specs.declared.Refusal.{Refusal}
use Rattle.claims_text.specs.Replies.{Replied}

-- ── how long a line is ──

pub yes_long : length (line (text "yes") []) ≤ 64
unfolding line fields
yes_long = omega arith

pub members_long : length (line (text "no members") []) ≤ 64
unfolding line fields
members_long = omega arith

-- `no pair` and `no read` are as long as `refused`
pub pair-long : (a b : ℕ) → a < 2 ^ 64 → b < 2 ^ 64 → length (line (text "no pair") (a ∷ b ∷ [])) ≤ 64
unfolding line refused_line
pair-long a b l k = refused_length a b l k

pub read-long : (i : ℕ) → i < 2 ^ 64 → length (line (text "no read") (i ∷ [])) ≤ 64
unfolding line fields refused_line
read-long i l = omega (arith, refused_length 0 i (omega arith) l, length-append (field 0) (fields (i ∷ [])))

pub short : {l : List ℕ} → length l ≤ 64 → Short 0 l
short s = record { bound = omega arith }

-- ── what was put for the answer a ──

replied : {a : ClaimAnswer} {o b l : List ℕ} {n : ℕ} → 64 ≤ length o → reply_line (reply a) ≡ l → length l ≤ 64 → Put o 0 b n l → Replied a o b n
replied room e s x = record { is = rw e x; fits = omega (arith, x.end) }

module _ {a : ClaimAnswer} {o b : List ℕ} {n : ℕ} (room : 64 ≤ length o) where
  pub yes_replied : a ≡ Ok Yes → Put o 0 b n (line (text "yes") []) → Replied a o b n
  unfolding reply reply_line
  yes_replied e = replied room (rw e) yes_long

  pub read_replied : {i : ℕ} → a ≡ Ok (NoRead i) → i < 2 ^ 64 → Put o 0 b n (line (text "no read") (i ∷ [])) → Replied a o b n
  unfolding reply reply_line
  read_replied {i} e l = replied room (rw e) (read-long i l)

  pub members_replied : a ≡ Ok NoMembers → Put o 0 b n (line (text "no members") []) → Replied a o b n
  unfolding reply reply_line
  members_replied e = replied room (rw e) members_long

  pub pair_replied : {c d : ℕ} → a ≡ Ok (NoPair c d) → c < 2 ^ 64 → d < 2 ^ 64 → Put o 0 b n (line (text "no pair") (c ∷ d ∷ [])) → Replied a o b n
  unfolding reply reply_line
  pair_replied {c} {d} e l k = replied room (rw e) (pair-long c d l k)

  pub refused_replied : {d : Refusal} → a ≡ Err d → cause_no d.cause < 2 ^ 64 → d.place < 2 ^ 64 → Put o 0 b n (refused_line (cause_no d.cause) d.place) → Replied a o b n
  unfolding reply reply_line
  refused_replied {d} e l k = replied room (rw e) (refused_length (cause_no d.cause) d.place l k)
