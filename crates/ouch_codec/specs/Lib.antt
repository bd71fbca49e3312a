pub mod Inbound
pub mod InboundBack
pub mod Layouts
pub mod Outbound
pub mod OutboundBack
