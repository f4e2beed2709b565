use Rattle.resumed_calls.proofs.Given.{places_when_asked, request_when_asked}
use Rattle.resumed_calls.proofs.giving.given_to.Goals as goal

pub reply_at-requires-clause-request : goal.reply_at-requires-clause-request
reply_at-requires-clause-request c =
    request_when_asked c.args.slot c.args.cont.now c.in-Requests.place c.in-Requests.wanted c.requires c.in-Requests.ensures.call

pub reply_at-requires-clause-places : goal.reply_at-requires-clause-places
reply_at-requires-clause-places c =
    places_when_asked c.args.slot c.args.cont.now c.in-Requests.place c.in-Requests.wanted c.requires c.in-Requests.ensures.call
