use Rattle.trace_bundle.proofs.send.+send_entries.Given as goal

abbrev pub decreases-send_entries : goal.decreases-send_entries
decreases-send_entries g l = l.segment
