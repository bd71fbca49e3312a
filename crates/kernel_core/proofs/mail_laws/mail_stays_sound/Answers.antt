use Rattle.kernel_core.proofs.SoundMail.{among-next, soonest-next, sound-all_sent, sound-begun, sound-injected, sound-put_back, sound-taken}
use Rattle.kernel_core.proofs.mail_laws.mail_stays_sound.Goals as goal

pub returns : goal.returns
returns c = record {
  begun = sound-begun;
  sent = sound-all_sent;
  injected = sound-injected;
  taken = sound-taken;
  put_back = sound-put_back;
  next = among-next;
  soonest = soonest-next;
}
