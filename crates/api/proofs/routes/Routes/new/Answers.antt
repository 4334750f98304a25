use Rattle.api.proofs.Apart.{routes_apart}
use Rattle.api.proofs.routes.Routes.new.Goals as goal

pub build_router-requires : goal.build_router-requires
build_router-requires c = routes_apart
