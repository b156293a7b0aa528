-- What the program `claim` does not keep changes nothing: the bytes behind 32,769 of a trace, the entries behind 129 of a claim, and a word of more than three
-- bytes, for which it takes the empty one.
use Prim.Native.Nat.{ℕ, ◌<◌, ◌≤◌}
use mathlib.Core.Path.{◌≡◌, refl, ap, sym, ◌∙◌}
use mathlib.Core.Bool.{false}
use mathlib.Core.List.{List, []}
use mathlib.Core.Logic.{⊎_elim}
use native.Mathlib.Omega.{arith}
use lib.ListN.{length, take}
use lib.Seq.{take_all, length-take-le}
use Rattle.base.specs.Base.{pick, first, first_of}
use Rattle.base.proofs.Tests.{is_false, split}
use Rattle.rules.specs.History.{History}
use Rattle.rules.specs.Reading.{Reading, refused, read, reading}
use Rattle.demand1.specs.Lawful.{LawfulHistory}
use Rattle.demand1.proofs.Readings.{kept-reading}
use Rattle.demand1.proofs.Lengths.{lawful_reading}
use Rattle.text.specs.Lines.{level_word}
use Rattle.text.proofs.Lines.{level_length}
use Rattle.claims_rules.specs.Claims.{has_members, claimed_in, claimed_read, claimed}
use Rattle.claims_rules.specs.Lines.{claim_text}
use Rattle.claims_rules.specs.Words.{is_same_word, is_word_of, level_named, number_named}
use Rattle.claims_rules.proofs.Few.{members_few}
use Rattle.claims_rules.proofs.Words.{level_named_most, level_named_iff}
use Rattle.claims_text.proofs.Words.{short_none, short_over, named_none}

pub kept-trace : (s : List ℕ) (level : ℕ) (o : List ℕ) → claim_text (take 32769 s) level o ≡ claim_text s level o
unfolding claim_text claimed
kept-trace s level o = rw (kept-reading s)

-- a claim of more than 128 entries has not the right members
long_wrong : {h : History} → LawfulHistory h → (o : List ℕ) → 128 < length o → has_members h o ≡ false
long_wrong {h} ok o l = is_false _ (λ t. omega (arith, ok.few_txs, members_few h o t))

-- so of two of them the same is said
module _ (level : ℕ) (o q : List ℕ) (l : 128 < length o) (k : 128 < length q) where
  long_same : {h : History} → LawfulHistory h → claimed_in h level o ≡ claimed_in h level q
  unfolding claimed_in pick
  long_same ok = rw (long_wrong ok o l, long_wrong ok q k)

  read_same : (s : List ℕ) (r : Reading) → reading s ≡ r → claimed_read r level o ≡ claimed_read r level q
  unfolding claimed_read
  read_same s (refused n p) e = refl
  read_same s (read h notes) e = long_same (lawful_reading s e)

pub kept_claim : (s : List ℕ) (level : ℕ) (o : List ℕ) (k : ℕ) → 129 ≤ k → claim_text s level (take k o) ≡ claim_text s level o
unfolding claim_text claimed
kept_claim s level o k m =
    ⊎_elim
    (λ (l : k < length o). rw (read_same level (take k o) o (omega (arith, length-take-le k o (omega arith))) (omega arith) s (reading s) refl))
    (λ (l : length o ≤ k). rw (take_all k o l)) (split k (length o))

-- ── words ──

long_level : (w : List ℕ) → 3 < length w → level_named w ≡ 0
long_level w l =
    ⊎_elim (λ z. omega arith)
    (λ a.
    let e = (level_named_iff w (level_named w) a (level_named_most w)).0 refl in
    absurd (omega (arith, ap length e, level_length (level_named w))))
    (split (level_named w) 1)

pub kept_word : (w : List ℕ) → 3 < length w → (level_named w ≡ level_named []) × (number_named w ≡ number_named [])
unfolding pick first first_of level_word is_same_word is_word_of level_named
kept_word w l = (long_level w l, named_none w (short_over w l) ∙ sym (named_none [] (short_none [] (omega arith))))
