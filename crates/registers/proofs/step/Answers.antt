-- `registers::step` meets its contract: each arm does what is due.
use mathlib.Core.Path.{refl, sym, ap, ◌∙◌}
use Rattle.taskfile.specs.Host.{access_of, turn_of}
use Rattle.taskfile.specs.HostLaws.{turn_of-gives}
use Rattle.registers.specs.RegistersLaws.{step_of-due, memory_of-due}
use Rattle.registers.proofs.step.Goals as goal

pub give-requires : goal.give-requires
give-requires c = turn_of-gives c.args.file c.access_of.result c.args.value (ap (λ t. t.due) (sym c.turn_of-t.ensures) ∙ c.in-Gives.is)

pub returns-in-Refused : goal.returns-in-Refused
returns-in-Refused c = (rw c.plain.ensures refl ∙ step_of-due c.args.file (access_of c.args.access) c.args.value c.args.state c.args.table.now c.args.mem.now _ _ (c.turn_of-t.ensures ∙ ap (λ a. turn_of c.args.file a c.args.value) c.access_of.ensures) c.in-Refused.is, memory_of-due c.args.file (access_of c.args.access) c.args.value c.args.state c.args.table.now c.args.mem.now _ _ (c.turn_of-t.ensures ∙ ap (λ a. turn_of c.args.file a c.args.value) c.access_of.ensures) c.in-Refused.is)

pub returns-in-Held : goal.returns-in-Held
returns-in-Held c = (rw c.plain-in-Held.ensures refl ∙ step_of-due c.args.file (access_of c.args.access) c.args.value c.args.state c.args.table.now c.args.mem.now _ _ (c.turn_of-t.ensures ∙ ap (λ a. turn_of c.args.file a c.args.value) c.access_of.ensures) c.in-Held.is, memory_of-due c.args.file (access_of c.args.access) c.args.value c.args.state c.args.table.now c.args.mem.now _ _ (c.turn_of-t.ensures ∙ ap (λ a. turn_of c.args.file a c.args.value) c.access_of.ensures) c.in-Held.is)

pub returns-in-Performs : goal.returns-in-Performs
returns-in-Performs c = (c.perform.ensures.step ∙ step_of-due c.args.file (access_of c.args.access) c.args.value c.args.state c.args.table.now c.args.mem.now _ _ (c.turn_of-t.ensures ∙ ap (λ a. turn_of c.args.file a c.args.value) c.access_of.ensures) c.in-Performs.is, c.perform.ensures.memory ∙ memory_of-due c.args.file (access_of c.args.access) c.args.value c.args.state c.args.table.now c.args.mem.now _ _ (c.turn_of-t.ensures ∙ ap (λ a. turn_of c.args.file a c.args.value) c.access_of.ensures) c.in-Performs.is)

pub returns-in-PerformsListed : goal.returns-in-PerformsListed
returns-in-PerformsListed c = (c.perform_listed.ensures.step ∙ step_of-due c.args.file (access_of c.args.access) c.args.value c.args.state c.args.table.now c.args.mem.now _ _ (c.turn_of-t.ensures ∙ ap (λ a. turn_of c.args.file a c.args.value) c.access_of.ensures) c.in-PerformsListed.is, c.perform_listed.ensures.memory ∙ memory_of-due c.args.file (access_of c.args.access) c.args.value c.args.state c.args.table.now c.args.mem.now _ _ (c.turn_of-t.ensures ∙ ap (λ a. turn_of c.args.file a c.args.value) c.access_of.ensures) c.in-PerformsListed.is)

pub returns-in-Gives : goal.returns-in-Gives
returns-in-Gives c = (c.give.ensures ∙ step_of-due c.args.file (access_of c.args.access) c.args.value c.args.state c.args.table.now c.args.mem.now _ _ (c.turn_of-t.ensures ∙ ap (λ a. turn_of c.args.file a c.args.value) c.access_of.ensures) c.in-Gives.is, memory_of-due c.args.file (access_of c.args.access) c.args.value c.args.state c.args.table.now c.args.mem.now _ _ (c.turn_of-t.ensures ∙ ap (λ a. turn_of c.args.file a c.args.value) c.access_of.ensures) c.in-Gives.is)

pub returns-in-Resets : goal.returns-in-Resets
returns-in-Resets c = (rw (c.plain-in-Resets.ensures, c.power_on.ensures) refl ∙ step_of-due c.args.file (access_of c.args.access) c.args.value c.args.state c.args.table.now c.args.mem.now _ _ (c.turn_of-t.ensures ∙ ap (λ a. turn_of c.args.file a c.args.value) c.access_of.ensures) c.in-Resets.is, memory_of-due c.args.file (access_of c.args.access) c.args.value c.args.state c.args.table.now c.args.mem.now _ _ (c.turn_of-t.ensures ∙ ap (λ a. turn_of c.args.file a c.args.value) c.access_of.ensures) c.in-Resets.is)
