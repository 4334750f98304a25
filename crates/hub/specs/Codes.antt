-- How a node and its connections are stored as values; for private use.
-- The kit's own form for records.
use Rattle.std.specs.Prelude.{ℕ, List, Option, refl}
use Rattle.std.specs.Coded.{Coded, code_by, coded×, coded_list, coded_option, coded_ℕ}
use Rattle.auth.specs.Callers.{Configuration}
use Rattle.node.specs.Step.{Serving}
use Rattle.hub.specs.Connections.{ConnectionTable, table_code}
use Rattle.hub.specs.Failing.{FailedRequest, failed_request_code}
use Rattle.hub.specs.Feeding.{HubState}

abbrev pub configuration_code : Coded Configuration
configuration_code =
    code_by (List ℕ × List (List ℕ)) (coded× (coded_list coded_ℕ) (coded_list (coded_list coded_ℕ))) (λ c. (c.secret, c.admins))
    (λ p. record { secret = p.0; admins = p.1 }) (λ _. refl)

abbrev pub serving_code : {S : Type 0} → Coded S → Coded (Serving S)
serving_code {S} code = code_by (S × Configuration) (coded× code configuration_code) (λ s. (s.store, s.configuration)) (λ p. record { store = p.0; configuration = p.1 }) (λ _. refl)

abbrev pub state_code : {S : Type 0} → Coded S → Coded (HubState S)
state_code {S} code =
    code_by (Serving S × (ConnectionTable × Option (List FailedRequest))) (coded× (serving_code code) (coded× table_code (coded_option (coded_list failed_request_code))))
    (λ s. (s.node, (s.connections, s.failures))) (λ p. record { node = p.0; connections = p.1.0; failures = p.1.1 }) (λ _. refl)
