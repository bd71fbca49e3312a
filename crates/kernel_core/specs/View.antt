-- The state that a kernel's fields tell.
use Rattle.kernel_core.specs.declared.kernel.Kernel.TheInside.{Inside}
use Rattle.kernel_core.specs.State.{State}

abbrev pub state_of : Inside → State
state_of k = record {
  time = k.time;
  events = k.events;
  applied = k.applied;
  post = k.mail;
  own = k.own.items;
  floor = k.floor;
  groups = k.groups;
}
