-- How an audit ends whose bytes are no bundle.
use Rattle.bundle_reader.specs.declared.bundle.BundleError.{BundleError}
use Rattle.bundle_reader.specs.declared.bundle.BundleError.TheVariants as error
use Rattle.abides_run.specs.declared.status.Status.{Status}
use Rattle.abides_run.specs.declared.status.Status.TheVariants.{BadBundle, Memory}

-- a cut frame is reason 1, bytes that are no frame are reason 2, and a frame that may not stand where it does is reason 3
abbrev pub status_for : BundleError → Status
status_for (error.Cut left) = BadBundle 1 left
status_for (error.BadFrame at) = BadBundle 2 at
status_for (error.BadOrder at) = BadBundle 3 at
status_for error.Memory = Memory
