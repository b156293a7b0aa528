-- What each part of the call on lists works out, and what it answers.
use Rattle.std.specs.Prelude.{ℕ, ◌≤◌, ◌≡◌, List, length, Result, Ok, Err}
use Rattle.theory.specs.Leads.{is_listed}
use Rattle.rules.specs.Numbers.{over}
use Rattle.rules.specs.History.{History, size}
use Rattle.rules.specs.Refusals.{cause_no}
use Rattle.rules.specs.declared.Refusal.{Refusal}
use Rattle.table.specs.Table.{history_of}
use Rattle.bits.specs.Bits.{Holds, Under}
use Rattle.pairs.specs.Pairs.{before}
use Rattle.appends_rules.specs.Appends.{lists_in}
use Rattle.appends_rules.specs.Dependencies.{is_write_dep, is_read_dep, is_dep, write_pairs}
use Rattle.appends_rules.specs.ListOutcome.{ListReport, lists_refused, lists_told, list_finding_list, both_lists}
use Rattle.grading.specs.Grades.{AllGraded}
use Rattle.appends.specs.declared.ListCounts.{ListCounts}

-- the call's answer
abbrev pub ListAnswer : Type 0
ListAnswer = Result ListCounts Refusal

-- what each case of it says
unfoldable pub list_reported : ListAnswer → ListReport
list_reported (Ok n) = lists_told n.findings n.writes n.both
list_reported (Err r) = lists_refused (cause_no r.cause) r.place

-- r has the read dependencies, and c the listed pairs over both sorts, by first
pub record BothListed (h : History) (l : ℕ → List ℕ) (r c : List ℕ) : Type 0 where
  pub reads : Holds r (before (is_read_dep h l))
  pub under : Under (size h) c
  pub lists : Holds c (is_listed (size h) (is_dep h l))

-- everything is worked out: w has the write dependencies, over which `writes` pairs are listed
pub record Worked (s h k w r c : List ℕ) (writes : ℕ) : Type 0 where
  pub graded : AllGraded s h k
  pub ties : Holds w (before (is_write_dep (history_of h) (lists_in s (history_of h))))
  pub number : writes ≡ length (write_pairs (history_of h) (lists_in s (history_of h)))
  pub few : writes ≤ 16384
  pub both : BothListed (history_of h) (lists_in s (history_of h)) r c

-- the buffers fs and ps have become ft and pt, with the lists at their fronts
pub record PutLists (h : History) (l : ℕ → List ℕ) (fs ps ft pt : List ℕ) : Type 0 where
  pub findings : ft ≡ over (list_finding_list h l) fs
  pub pairs : pt ≡ over (both_lists h l) ps
