use Rattle.kernel_copy.proofs.course.Course.new.Goals as goal

pub invariant_of-result : goal.invariant_of-result
invariant_of-result c = record {
  opening = c.requires.opening;
  limit = c.requires.limit;
  rooted = c.is_tree.ensures.rooted;
  accepted = c.is_tree.ensures.accepted;
  edits = c.requires.edits;
}
