use Rattle.kernel_copy.proofs.Floors.{ShortLaws}
use Rattle.kernel_copy.proofs.Reaching.{end-reached, entries-timely, full-reached}
use Rattle.kernel_copy.proofs.laws.courses_stay_in_range.Goals as goal
use Rattle.kernel_copy.proofs.laws.courses_stay_in_range.Goals.{After-books_stay_short}

laws : After-books_stay_short → ShortLaws
laws c = record { books = c.books_stay_short.ensures.books; replies = c.books_stay_short.ensures.replies }

pub returns-clause-states : goal.returns-clause-states
returns-clause-states c k b e h l = (full-reached (laws c) k b e h l).state

pub returns-clause-entries : goal.returns-clause-entries
returns-clause-entries c k b e h l = (full-reached (laws c) k b e h l).timely

pub returns-clause-ends : goal.returns-clause-ends
returns-clause-ends c k s h l = (end-reached (laws c) k s h l).state

pub returns-clause-segments : goal.returns-clause-segments
returns-clause-segments c k s h l = entries-timely (laws c) k s h l
