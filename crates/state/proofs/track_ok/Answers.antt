-- `track_ok` joins the tests of a track's parts.
use Rattle.std.proofs.Common.{rules, ◌≡◌, refl}
use Rattle.laws.proofs.Tests.{both}
use Rattle.state.specs.Tests.{ok_play, ok_track}
use Rattle.state.proofs.track_ok.Goals as goal

pub returns : goal.returns
unfolding ok_track ok_play
returns c =
    let p : c.play_ok.result ≡ ok_play c.args.track = search rules in
    both (both (both (both (both p c.params_ok.ensures) c.own_layers_ok.ensures) c.options_ok.ensures) c.tables_ok.ensures) refl
