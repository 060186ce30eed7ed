-- `taskfile::host::data_turn` meets its contract: a record in a run has a next byte.
use Rattle.std.proofs.Common.{sym, ◌∙◌}
use Rattle.taskfile.specs.RunLaws.{phase_of-packet, phase_of-list}
use Rattle.taskfile.proofs.host.data_turn.Goals as goal

pub packet_byte-requires : goal.packet_byte-requires
packet_byte-requires c = (phase_of-packet c.args.f (sym c.phase_of.ensures ∙ c.in-PacketRun.is)).0

pub list_byte-requires : goal.list_byte-requires
list_byte-requires c = phase_of-list c.args.f (sym c.phase_of.ensures ∙ c.in-ListRun.is)
