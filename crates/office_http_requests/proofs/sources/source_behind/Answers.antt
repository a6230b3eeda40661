use Rattle.std.proofs.Common.{sym, ◌∙◌}
use Rattle.office_http_requests.proofs.SourceFacts.{never_named}
use Rattle.office_http_requests.proofs.sources.source_behind.Goals as goal

pub returns-in_default : goal.returns-in_default
returns-in_default c = absurd (never_named c.behind-name.result.now (sym c.is_package_name.ensures ∙ c.if-not-is_package_name.false) c.in_default.ensures.cases.0)
