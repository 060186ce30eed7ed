-- "From power-on, over any calls: an attention is pending exactly when its cause happened at or since the last power-on
-- and no later answer told it."
use Rattle.std.specs.Prelude.{List}
use Rattle.drive.specs.declared.state.Drive.{Drive}
use Rattle.claims.specs.Telling.{Attention}
use Rattle.claims.specs.History.{Standing}
use Rattle.claims.specs.Call.{Call, history, is_power_on, causes, tells}

-- its cause happened at or since the last power-on, so that no power-on is later, and no later answer told it
abbrev pub Stands : Attention → Drive → List Call → Type 0
Stands k handed calls = Standing is_power_on (causes k) (tells k) (history handed calls)
