-- Cases of `ListCases.antt` as they are printed: a table and one statement.
use Rattle.std.specs.Prelude.{ℕ, ◌≡◌, refl, List, [], ◌∷◌, map, get_or}
use Prim.Native.String.{String}
use Rattle.text.specs.Lines.{text, decimal_by, decimal, field, fields, line, refused_line, read_line}
use Rattle.appends_rules.specs.ListCases.{append_table}
use Rattle.appends_rules.proofs.ListCases.{as_appended}
use Rattle.appends_text.specs.ListsText.{lists_line, fault_text, write_text, both_text, told_text, lists_read_text, lists_text}

-- a trace and its text
pub record ListsPrinted : Type 0 where
  pub bytes : List ℕ
  pub printed : List ℕ

abbrev prints : List ℕ → String → ListsPrinted
prints b s = record { bytes = b; printed = text s }

-- the trace of the case of that number, from 0
abbrev case_at : ℕ → List ℕ
case_at k = get_or (map (λ c. c.bytes) append_table) k []

abbrev pub lists_table : List ListsPrinted
lists_table =
    -- no list; no bytes
    prints (case_at 0) "lists 0 0 0\n"
    ∷ prints [] "refused 3 0\n"
    -- one finding: T1 l1=5
    ∷ prints (case_at 3) "lists 1 0 0\nread 1 1 7 0\n"
    -- G1a: T1 a1=5 aborted; T2 l1=5
    ∷ prints (case_at 7) "lists 1 0 0\nread 2 2 9 1\n"
    -- G0: T1 a1=1 a2=3; T2 a1=2 a2=4; T3 l1=1,2 l2=4,3
    ∷ prints (case_at 13) "lists 0 2 2\nwrite 1 2 16\nwrite 2 1 16\nboth 1 2 16\nboth 2 1 16\n"
    -- a cycle that needs a read, both reasons on one pair
    ∷ prints (case_at 17) "lists 0 0 2\nboth 1 2 20\nboth 2 1 4\n"
    -- G0, and a fourth transaction with l1=2: all sorts of lines
    ∷ prints (case_at 20) "lists 1 2 2\nread 4 7 11 0\nwrite 1 2 16\nwrite 2 1 16\nboth 1 2 16\nboth 2 1 16\n"
    -- 17: T1 l1=5 w1=5
    ∷ prints (case_at 21) "refused 17 44\n"
    ∷ []

-- what a trace prints
abbrev pub to_print_lists : ListsPrinted → ListsPrinted
to_print_lists c = record { bytes = c.bytes; printed = lists_text c.bytes }

-- `as_appended` unfolds all that the outcome is computed with
pub as_listed : map to_print_lists lists_table ≡ lists_table
unfolding as_appended decimal_by decimal field fields line refused_line read_line lists_line fault_text write_text both_text told_text lists_read_text lists_text
as_listed = refl
