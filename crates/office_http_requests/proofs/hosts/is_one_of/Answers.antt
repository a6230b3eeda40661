use Rattle.std.proofs.Common.{Bor, List, ℕ, ◌∙◌, rules, of_calls}
use Rattle.std.proofs.lemmas.Iterator.{YieldsList-from_slice}
use Rattle.std.proofs.lemmas.Iterator.Search.{any_from_yields_List}
use Rattle.office_http_requests.specs.Hosts.{is_named}
use Rattle.office_http_requests.proofs.HostFacts.{any_of_images}
use Rattle.office_http_requests.proofs.hosts.is_one_of.Goals as goal

pub returns : goal.returns
returns c =
    any_from_yields_List (λ (host : Bor (List ℕ)). is_named c.args.value.now host.now) _ _ _ c.any.ensures.ran (YieldsList-from_slice c.args.hosts.now cc) (λ x b q r. search (rules, of_calls))
    ∙ any_of_images (is_named c.args.value.now) (λ (host : Bor (List ℕ)). host.now) c.args.hosts.now
