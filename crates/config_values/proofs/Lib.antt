pub mod AddressLemmas
pub mod Bytes
pub mod HostNames
pub mod IpLemmas
pub mod ModeLemmas
pub mod RateLemmas
pub mod TimeLemmas
