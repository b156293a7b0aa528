-- A record is read the same where its bytes are the same but for the status of a close.
use Prim.Native.Nat.{ℕ}
use mathlib.Core.Path.{◌≡◌, ap, sym}
use mathlib.Core.Bool.{true}
use mathlib.Core.List.{List}
use lib.ListN.{get_or}
use Rattle.rules.specs.Records.{is_second}
use Rattle.demand1.specs.Rows.{session}
use Rattle.demand1.proofs.Events.{Framed, wrong_still}
use Rattle.demand1.proofs.Agree.{agree_kind, SameHead, agree_len}

-- the same bytes have the same byte at each place
pub same_byte : {a b : List ℕ} (i : ℕ) → a ≡ b → get_or a i 0 ≡ get_or b i 0
same_byte i e = ap (λ (x : List ℕ). get_or x i 0) e

-- the records of s and b at `at` have the same header, and in edition 2 the same session, which stands before the status
pub record SameFront (s b : List ℕ) (at : ℕ) : Type 0 where
  pub head : SameHead s b at
  pub of_session : is_second s ≡ true → session b at ≡ session s at

-- a well-framed record stays one
pub agree_framed : {s b : List ℕ} {at : ℕ} → SameHead s b at → Framed s at → Framed b at
agree_framed x f =
    record {
      sized = record {
        low = rw (agree_len x) f.sized.low;
        there = rw (agree_len x, x.header.long) f.sized.there;
        known = rw (agree_kind x.header) f.sized.known;
        no_note = rw (x.second, agree_kind x.header) f.sized.no_note;
        append_second = rw (x.second, agree_kind x.header) f.sized.append_second;
        list_second = rw (x.second, agree_kind x.header) f.sized.list_second;
      };
      fits = rw (x.second, agree_kind x.header, agree_len x) (λ w. f.fits (wrong_still (λ k l. sym (x.counts k l)) w));
    }
