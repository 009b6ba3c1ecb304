use Rattle.tv_run.proofs.Named.{judgeable_module}
use Rattle.tv_run.proofs.check.report_of.Goals as goal

pub report_of_modules-requires-clause-source_is : goal.report_of_modules-requires-clause-source_is
report_of_modules-requires-clause-source_is g c = λ κs below. judgeable_module _ _ c.in_ok-both.ensures.modules.parsed.source_is

pub report_of_modules-requires-clause-target_is : goal.report_of_modules-requires-clause-target_is
report_of_modules-requires-clause-target_is g c = λ κs below. judgeable_module _ _ c.in_ok-both.ensures.modules.parsed.target_is

pub returns-clause-reports : goal.returns-clause-reports
returns-clause-reports g c = λ files known.
    let read = c.in_ok-both.ensures.modules in
    record {
      reports = record {
        source = c.in_ok-both.both.source;
        target = c.in_ok-both.both.target;
        source_is = read.source_is files known;
        target_is = read.target_is files known;
        report = c.in_ok-report.ensures.report;
      };
      asked = c.in_ok-report.ensures.asked;
    }
