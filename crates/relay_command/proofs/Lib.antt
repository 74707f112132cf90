mod SoftLimitLemmas
mod ReplyLemmas
