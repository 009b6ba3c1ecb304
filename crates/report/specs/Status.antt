-- The classes of findings that a report counts, and its status.
use Rattle.std.specs.Prelude.{ℕ, List, Bool, true, false, ◌||◌, count_by, nat_lt, if◌then◌else◌}
use Rattle.report.specs.declared.row.Finding.{Finding}
use Rattle.report.specs.declared.row.Finding.TheVariants as finding
use Rattle.report.specs.declared.row.Row.{Row}
use Rattle.report.specs.declared.status.Class.{Class}
use Rattle.report.specs.declared.status.Class.TheVariants as class

-- whether a finding is of the class
abbrev pub is_of_class : Class → Finding → Bool
is_of_class class.Correct finding.Correct = true
is_of_class class.Incorrect (finding.Incorrect point shown) = true
is_of_class class.Unknown (finding.Unknown cause) = true
is_of_class class.Refused (finding.Refused side refused) = true
is_of_class class.Signature finding.Signature = true
is_of_class class.Missing finding.Missing = true
is_of_class class.Extra finding.Extra = true
is_of_class _ _ = false

-- how many rows have a finding of the class
abbrev pub count : Class → List Row → ℕ
count c rows = count_by (λ row. is_of_class c row.finding) rows

abbrev pub has_some : Class → List Row → Bool
has_some c rows = nat_lt 0 (count c rows)

-- 1 for some incorrect, else 2 for some unknown, else 3 for some that were not judged, else 0
abbrev pub status_of : List Row → ℕ
status_of rows =
    (if has_some class.Incorrect rows then 1
    else (if has_some class.Unknown rows then 2
    else (if has_some class.Refused rows || has_some class.Signature rows || has_some class.Missing rows || has_some class.Extra rows then 3 else 0)))
