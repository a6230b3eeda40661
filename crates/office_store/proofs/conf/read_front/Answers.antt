use Rattle.office_store.proofs.Front.{of_limited}
use Rattle.office_store.proofs.conf.read_front.Goals as goal

-- src/conf.rt:41:1
pub returns : goal.returns
returns g c = of_limited (g.R.Read.remaining c.args.reader) _ _ _ c.take.ensures.limit c.new-bytes.ensures.items
    (rw c.take.ensures.inner at c.in_ok-read_to_end.ensures.bytes)
