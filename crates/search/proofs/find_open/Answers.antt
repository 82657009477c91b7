-- `search::find_open` meets its contract: where the screen rules out the route, the definition finds nothing.
-- Assumes nothing.
use Rattle.transfers.specs.Route.{hit_of}
use Rattle.search.proofs.Routes.{route_step-ruled}
use Rattle.search.proofs.find_open.Goals as goal

pub returns-then-rules_out : goal.returns-then-rules_out
unfolding hit_of
returns-then-rules_out c =
    record {
      sound = λ across. tt;
      is = λ p count placement margin-is room across.
          route_step-ruled c.args.scene.now.held.fits c.args.scene.now.indexed c.requires p count placement margin-is c.args.row.swapping across (c.rules_out.ensures c.if-rules_out.true);
    }
